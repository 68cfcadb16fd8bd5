-- `forward::list_around` meets its contract. Assumes nothing.
use Rattle.forward.proofs.Listing.{around-told}
use mathlib.Core.Path.{◌∙◌}
use Rattle.forward.proofs.list_around.Goals as goal

pub returns : goal.returns
returns c = (
  c.add_up.ensures ∙
      around-told _ _ _ c.requires.0 _ _ _
      c.climb_to-up.ensures
      c.climb_to-down.ensures
      c.climb_to-rest.ensures _,
  c.write_around.ensures,
)
