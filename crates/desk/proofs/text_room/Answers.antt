-- `desk::text_room` meets its contract. Assumes nothing.
use Rattle.std.proofs.Common.{ℕ}
use Rattle.std.proofs.lemmas.List.{length-replicate}
use Rattle.desk.proofs.text_room.Goals as goal

pub returns : goal.returns
returns c = length-replicate {0} {A = ℕ} 524289 0
