-- What a view holds: a walk through the groups of a source, and the group that was returned last, if there is one.
use Rattle.std.specs.Prelude.{List, [], Option, Some, None}
use Rattle.properties_format.specs.Body.{HeldLine}
use Rattle.properties_text.specs.Encoding.{encoding_of}
use Rattle.properties_lines.specs.declared.scanner.Scanner.{Scanner}
use Rattle.properties_editing.specs.Views.{OpenView, with_bytes}
use Rattle.properties_editing.specs.Private.BodyViews.{IsOpened, IsViewed, groups_to_come, walked_lines}
use Rattle.properties_editing.specs.declared.view.View.TheInside.{Inside}
use Rattle.properties_editing.specs.declared.walk.WalkedGroup.{WalkedGroup}
use Rattle.properties_editing.specs.declared.walk.Walk.{Walk}

-- the state before the group; without one, that before the next group
abbrev pub state_of : Option WalkedGroup → Walk → Scanner
state_of None walk = walk.reader.scanner
state_of (Some group) walk = walk.before

abbrev pub group_of : Option WalkedGroup → Walk → List HeldLine
group_of None walk = []
group_of (Some group) walk = walked_lines walk

abbrev pub open_view : Inside → OpenView
open_view v =
    record {
      source = v.walk.source.now;
      encoding = encoding_of (state_of v.group v.walk).encoding;
      group = group_of v.group v.walk;
      start = (state_of v.group v.walk).at;
      passed = (state_of v.group v.walk).passed;
      to_come = with_bytes (groups_to_come v.walk);
    }

abbrev pub HasGroup : Option WalkedGroup → Walk → Type 0
HasGroup None walk = Unit {0}
HasGroup (Some group) walk = IsViewed walk group

pub record IsView (v : Inside) : Type 0 where
  pub opened : IsOpened v.walk
  pub has_group : HasGroup v.group v.walk
