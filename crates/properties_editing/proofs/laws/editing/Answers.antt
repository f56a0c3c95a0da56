use Rattle.properties_format.proofs.Valued.Laws.{setting-own_value, setting-value_twice, setting-value_again, setting-value_gives}
use Rattle.properties_format.proofs.Valued.Anew.{setting-value_anew}
use Rattle.properties_format.proofs.EditLaws.{removing-no_pair, setting-twice, setting-gives, removing-takes, lists-follow}
use Rattle.properties_format.proofs.Plan.Made.{key_set-is_planned, key_removed-is_planned, value_set-is_planned}
use Rattle.properties_format.proofs.Edits.PairResults.{passing_over-is_reading}
use Rattle.properties_format.proofs.Edits.PairValues.{value-among_pairs}
use Rattle.properties_editing.proofs.laws.editing.Goals as goal

pub returns-clause-absent : goal.returns-clause-absent
returns-clause-absent c = removing-no_pair

pub returns-clause-twice : goal.returns-clause-twice
returns-clause-twice c = setting-twice

pub returns-clause-set : goal.returns-clause-set
returns-clause-set c = setting-gives

pub returns-clause-removed : goal.returns-clause-removed
returns-clause-removed c = removing-takes

pub returns-clause-own_value : goal.returns-clause-own_value
returns-clause-own_value c = setting-own_value

pub returns-clause-value_twice : goal.returns-clause-value_twice
returns-clause-value_twice c = setting-value_twice

pub returns-clause-value_again : goal.returns-clause-value_again
returns-clause-value_again c = setting-value_again

pub returns-clause-value : goal.returns-clause-value
returns-clause-value c = setting-value_gives

pub returns-clause-value_anew : goal.returns-clause-value_anew
returns-clause-value_anew c = setting-value_anew

pub returns-clause-lists : goal.returns-clause-lists
returns-clause-lists c = lists-follow

pub returns-clause-set_plan : goal.returns-clause-set_plan
returns-clause-set_plan c r source key value editable result = key_set-is_planned r source key value result editable

pub returns-clause-removed_plan : goal.returns-clause-removed_plan
returns-clause-removed_plan c = key_removed-is_planned

pub returns-clause-value_plan : goal.returns-clause-value_plan
returns-clause-value_plan c r source key value editable result = value_set-is_planned r source key value result editable

pub returns-clause-passed_over : goal.returns-clause-passed_over
returns-clause-passed_over c = passing_over-is_reading

pub returns-clause-among_pairs : goal.returns-clause-among_pairs
returns-clause-among_pairs c = value-among_pairs
