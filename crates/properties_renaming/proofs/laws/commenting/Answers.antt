use Rattle.properties_renaming.proofs.CommentedContents.{comment-contents, comment-map, comment-sound, removed-contents, removed-map}
use Rattle.properties_renaming.proofs.laws.commenting.Goals as goal

pub returns-clause-set : goal.returns-clause-set
returns-clause-set c = comment-contents

pub returns-clause-map : goal.returns-clause-map
returns-clause-map c = comment-map

pub returns-clause-removed : goal.returns-clause-removed
returns-clause-removed c = removed-contents

pub returns-clause-removed_map : goal.returns-clause-removed_map
returns-clause-removed_map c = removed-map

pub returns-clause-sound : goal.returns-clause-sound
returns-clause-sound c = comment-sound
