-- `change::apply` meets its contract. Assumes nothing.
use Rattle.change.proofs.Applying.{apply_sound, asked_room, first-node, second_node, asked_still, apply_room, still-surveyed, apply_is}
use Rattle.change.proofs.apply.Goals as goal

pub flip_up-requires : goal.flip_up-requires
flip_up-requires c =
    (apply_sound _ _ _ _ _ c.requires.0, first-node _ _ _ _ _ c.requires.0 _ c.link_at-l.ensures, asked_room _ _ _ _ _ c.requires.0)

pub flip_up-requires-2 : goal.flip_up-requires-2
flip_up-requires-2 c = (
  apply_sound _ _ _ _ _ c.requires.0,
  second_node _ _ _ _ _ c.requires.0 _ c.link_at-l.ensures,
  asked_still _ _ _ _ _ c.requires.0 _ c.link_at-l.ensures _ c.flip_up.ensures,
)

pub refresh_surveyed-requires : goal.refresh_surveyed-requires
refresh_surveyed-requires c =
    (still-surveyed _ _ _ _ _ c.requires.0 _ c.requires.1 _ c.set_link.ensures, apply_room _ _ _ _ _ c.requires.0)

pub returns : goal.returns
returns c =
    apply_is _ _ _ _ _ c.requires.0 _ c.link_at-l.ensures _ c.flip_up.ensures _ c.flip_up-2.ensures _ c.set_link.ensures _ c.refresh_surveyed.ensures
