-- The texts of calls and of settings are of scalar values.
use Rattle.std.proofs.Common.{List, [], ◌∷◌}
use Rattle.std.specs.Prelude.{All, Option, Some, None, String}
use Rattle.properties_format.specs.Text.{scalar}
use Rattle.properties_format.specs.Writing.{IsOfScalars, AreOfScalars, AreGoodSettings}
use Rattle.properties_format.proofs.ReadBack.Law.{default_settings-good}
use Rattle.properties_format.proofs.Settings.Tests.{IsGoodPrefix-from_test, IsGoodSeparator-from_test}
use Rattle.java_properties.specs.PropertiesWriter.{prefix_of, settings_of, AreGood}
use Rattle.java_properties.specs.Calls.{call_in, calls_in}
use Rattle.java_properties.specs.declared.writer.calls.Call.{Call}
use Rattle.java_properties.specs.declared.writer.calls.Call.TheVariants.{Comment, Pair, Prefix, Separator}
use Rattle.java_properties.specs.declared.writer.settings.Settings.TheInside.{Inside}
use Rattle.properties_items.proofs.Scalars.{string-scalars}

-- the texts of a call are of scalar values
call-scalars : (call : Call) → IsOfScalars (call_in call)
call-scalars (Comment text) = string-scalars text
call-scalars (Pair key value) = (string-scalars key, string-scalars value)
call-scalars (Prefix prefix) = string-scalars prefix
call-scalars (Separator separator) = string-scalars separator
call-scalars other = tt

-- and of a list of calls
pub calls-scalars : (calls : List Call) → AreOfScalars (calls_in calls)
calls-scalars [] = tt
calls-scalars (call ∷ calls) = (call-scalars call, calls-scalars calls)

-- and those of a prefix that was set
prefix-scalars : {Z : Type 0} (prefix : Option (String Z)) → All scalar (prefix_of prefix)
prefix-scalars None = default_settings-good.scalars
prefix-scalars (Some text) = string-scalars text

-- what a writer is set to is good
pub settings-good : (s : Inside) → AreGood s → AreGoodSettings (settings_of s)
settings-good s h = record {
  prefix = IsGoodPrefix-from_test _ h.prefix;
  scalars = prefix-scalars s.comment_prefix;
  separator = IsGoodSeparator-from_test _ h.separator;
}
