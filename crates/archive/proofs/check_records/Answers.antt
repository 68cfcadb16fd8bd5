-- `archive::check_records` meets its contract. Assumes nothing.
use native.Mathlib.Omega.{arith}
use Rattle.archive.proofs.Holding.{few-nodes, few-links, links_fit, parents_fit, judged_is, entries-placed}
use Rattle.archive.proofs.check_records.Goals as goal

pub fill_links-requires : goal.fill_links-requires
fill_links-requires c =
    (omega (arith, few-links _ _ c.requires.0), links_fit _ _ c.requires.0)

pub fill_parents-requires : goal.fill_parents-requires
fill_parents-requires c =
    (omega (arith, few-links _ _ c.requires.0), omega (arith, few-nodes _ _ c.requires.0), parents_fit _ _ c.requires.0)

pub check_content-requires : goal.check_content-requires
check_content-requires c = (
  entries-placed _ _ c.requires.0 _ _ c.fill_links.ensures _ _ c.fill_parents.ensures _
      c.first_links-links.ensures _ c.first-parents.ensures,
  c.requires.1,
)

pub returns : goal.returns
returns c =
    judged_is _ _ c.requires.0 _ _
    c.fill_links.ensures _ _ c.fill_parents.ensures _
    c.first_links-links.ensures _
    c.first-parents.ensures _ _ _ c.check_content.ensures
