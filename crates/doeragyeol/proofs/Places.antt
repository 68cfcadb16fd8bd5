-- Every refusal that a call from C answers has a place that the word holds, so that the word gives it back. Assumes nothing.
use Rattle.std.specs.Prelude.{Err, None, Ok, Option, Some}
use mathlib.Core.Path.{◌≡◌, refl}
use mathlib.Core.Bool.{Bool, true, false}
use mathlib.Core.List.{List, [], ◌∷◌}
use Prim.Native.Nat.{ℕ, zero, suc, ◌+◌, ◌≤◌, ◌<◌, ◌%◌}
use native.Mathlib.Omega.{arith}
use lib.Dec.{leb}
use borrow.Author.Tests.{leb-false}
use Rattle.edition.specs.declared.Change.{Change}
use Rattle.edition.specs.declared.Limits.{Limits}
use Rattle.edition.specs.declared.Refusal.{Refusal}
use Rattle.edition.specs.declared.Search.{Search}
use Rattle.edition.specs.Refusals.{Verdict, taken}
use Rattle.edition.specs.declared.Why.{Why}
use Rattle.edition.specs.declared.Why.TheVariants.{NodeCount, LinkCount, BadRoot, BadDepth, BadRule, BadEnds, BadMark, BadParent, NoRoute, NotShort, NoRoom}
use Rattle.edition.specs.declared.Why.TheVariants.{LinkMissing, TreeLink, BreaksShort, BadStart, BadFailed, NoSwap, BadLength, BadCheck, BadBlock, BadEntry}
use Rattle.edition.specs.Limits.{memory_limits}
use Rattle.edition.specs.Stored.{edition_limits}
use Rattle.rows.specs.First.{first_to, refused_at, refuse_at, refuse_if, firstly, verdict_to}
use Rattle.rows.proofs.Best.{Lowest, here, first-is}
use Rattle.rows.proofs.Refusing.{head_taken, rest-taken, if_taken_lem}
use Rattle.network.specs.Network.{Net}
use Rattle.network.specs.Records.{size_verdict}
use Rattle.network.proofs.Sizes.{sized-nodes, sized-links}
use Rattle.tree.specs.Answers.{way_verdict, ways_verdict}
use Rattle.sound.specs.Sound.{record_verdict, net_verdict}
use Rattle.table.specs.Table.{table_verdict}
use Rattle.map.specs.Map.{map_verdict}
use Rattle.change.specs.Change.{change_verdict}
use Rattle.forward.specs.declared.Ask.{Ask}
use Rattle.forward.specs.Answers.{ask_verdict, forward_verdict}
use Rattle.forward.proofs.Filling.{ask_fits}
use Rattle.block.specs.Block.{block_verdict}
use Rattle.archive.specs.Parts.{blocks_for, block_count}
use Rattle.archive.specs.Writer.{write_verdict}
use Rattle.archive.specs.Reader.{nodes_read, links_read, search_read, net_read, Rows, block_refusal, head_verdict, rest_verdict, read_verdict}
use Rattle.archive.proofs.Reading.{nodes_read_lem, links_read_lem}
use Rattle.doeragyeol.specs.Word.{place_most, word_of, then_room}
use Rattle.doeragyeol.specs.Calls.{check_said, map_said, write_said, read_said, forward_said, distance_said}
use Rattle.doeragyeol.proofs.Words.{place_back}

-- a verdict that has no place, or one that a word holds
pub data Placed : Verdict → Type 0 where
  is_taken : Placed taken
  placed : {r : Refusal} → r.place ≤ place_most → Placed (Err r)

-- its word gives the place back
pub word-place : (r : Refusal) → Placed (Err r) → word_of (Err r) % (place_most + 1) ≡ r.place
word-place r (placed l) = place_back r l

-- one law for each way a check is written
if_placed : (b : Bool) (why : Why) (place : ℕ) → (b ≡ true → place ≤ place_most) → Placed (refuse_if b why place)
unfolding refuse_if
if_placed true why place l = placed (l refl)
if_placed false why place l = is_taken

at_zero : (b : Bool) (why : Why) → Placed (refuse_if b why 0)
at_zero b why = if_placed b why 0 (λ q. omega arith)

at_placed : (p : ℕ → Bool) (k : ℕ) (why : Why) → k ≤ place_most → Placed (refuse_at p k why)
unfolding refuse_at refused_at
at_placed p k why l = go (first_to p k) (first-is p k)
  where
    go : (f : Option ℕ) → Lowest p k f → Placed (refused_at why f)
    go None n = is_taken
    go (Some e) (here low q n) = let fits : e ≤ place_most = omega (arith, low, l) in placed fits

end : Placed (firstly [])
unfolding firstly
end = is_taken

next : (v : Verdict) (rest : List Verdict) → Placed v → (v ≡ taken → Placed (firstly rest)) → Placed (firstly (v ∷ rest))
unfolding firstly
next (Ok _) rest p q = q refl
next (Err r) rest p q = p

to_placed : (f : ℕ → Verdict) (k : ℕ) → ((j : ℕ) → j < k → Placed (f j)) → Placed (verdict_to f k)
unfolding verdict_to
to_placed f zero h = is_taken
to_placed f (suc k) h =
    next _ _ (to_placed f k (λ j l. h j (omega (arith, l)))) (λ q. next _ _ (h k (omega arith)) (λ r. end))

-- 1 to 4 and 14, 5 to 9, and both
sizes_placed : (most : Limits) (n m : ℕ) (search : Search) → Placed (size_verdict most n m search)
unfolding size_verdict
sizes_placed most n m search =
    next _ _ (at_zero _ NodeCount)
    (λ a. next _ _ (at_zero _ LinkCount)
    (λ b. next _ _ (at_zero _ BadRoot)
    (λ d. next _ _ (at_zero _ BadDepth)
    (λ e. next _ _ (at_zero _ BadRule) (λ f. end)))))

records_placed : (g : Net) → g.nodes ≤ place_most → g.links ≤ place_most → Placed (record_verdict g)
unfolding record_verdict
records_placed g n m =
    next _ _ (at_placed _ g.links BadEnds m)
    (λ a. next _ _ (at_placed _ g.links BadMark m)
    (λ b. next _ _ (at_placed _ g.nodes BadParent n)
    (λ d. next _ _ (at_placed _ g.nodes NoRoute n)
    (λ e. next _ _ (at_placed _ g.links NotShort m) (λ f. end)))))

net_placed : (g : Net) → Placed (net_verdict g)
unfolding net_verdict
net_placed g =
    next _ _ (sizes_placed memory_limits g.nodes g.links g.search)
    (λ t. next _ _ (records_placed g (omega (arith, sized-nodes memory_limits _ _ _ t)) (omega (arith, sized-links memory_limits _ _ _ t))) (λ a. end))

-- 1 to 9 and then a room
roomed : (g : Net) (b : Bool) → Placed (firstly (net_verdict g ∷ refuse_if b NoRoom 0 ∷ []))
roomed g b = next _ _ (net_placed g) (λ a. next _ _ (at_zero b NoRoom) (λ d. end))

-- a check and then a room for values
then_placed : (v : Verdict) (n : ℕ) (row : List ℕ) → Placed v → Placed (then_room v n row)
unfolding then_room
then_placed v n row p = next _ _ p (λ a. next _ _ (at_zero _ NoRoom) (λ b. end))

-- the calls
pub check_placed : (g : Net) (row : List ℕ) → Placed (check_said g row)
unfolding check_said
check_placed g row = then_placed (net_verdict g) 2 row (net_placed g)

pub table-placed : (g : Net) (row : List ℕ) → Placed (table_verdict g row)
unfolding table_verdict
table-placed g row = roomed g _

pub map-placed : (g : Net) (words row : List ℕ) → Placed (map_said g words row)
unfolding map_said map_verdict
map-placed g words row = then_placed (map_verdict g words) 2 row (roomed g _)

-- a link that 11 leaves
there-placed : (g : Net) (entries : List ℕ) (e : ℕ) → table_verdict g entries ≡ taken → refuse_if (leb g.links e) LinkMissing 0 ≡ taken → e ≤ place_most
unfolding table_verdict net_verdict
there-placed g entries e t there =
    omega (arith, sized-links memory_limits _ _ _ (head_taken _ _ (head_taken _ _ t)), leb-false g.links e (if_taken_lem _ LinkMissing 0 there))

pub change-placed : (g : Net) (entries : List ℕ) (c : Change) → Placed (change_verdict g entries c)
unfolding change_verdict
change-placed g entries c =
    next _ _ (table-placed g entries)
    (λ t. next _ _ (at_zero _ LinkMissing)
    (λ there. next _ _ (if_placed _ BadMark c.link (λ q. there-placed g entries c.link t there))
    (λ b. next _ _ (if_placed _ TreeLink c.link (λ q. there-placed g entries c.link t there))
    (λ d. next _ _ (if_placed _ BreaksShort c.link (λ q. there-placed g entries c.link t there)) (λ e. end)))))

pub write_placed : (g : Net) (file row : List ℕ) → Placed (write_said g file row)
unfolding write_said write_verdict
write_placed g file row = then_placed (write_verdict g file) 1 row (roomed g _)

-- a block, asked for by a number that a word holds
block-placed : (file : List ℕ) (n m i : ℕ) → i ≤ place_most → Placed (block_refusal file n m i)
unfolding block_refusal block_verdict
block-placed file n m i l =
    next _ _ (at_zero _ BadLength)
    (λ a. next _ _ (if_placed _ BadCheck i (λ q. l)) (λ b. next _ _ (if_placed _ BadBlock i (λ q. l)) (λ d. end)))

module _ (file : List ℕ) (rows : Rows) where
  head_placed : Placed (head_verdict file)
  unfolding head_verdict
  head_placed =
      next _ _ (at_zero _ BadLength)
      (λ a. next _ _ (block-placed file 0 0 0 (omega arith))
      (λ b. next _ _ (sizes_placed edition_limits (nodes_read file) (links_read file) (search_read file)) (λ d. end)))

  module _ (t : head_verdict file ≡ taken) where
    nodes-few : nodes_read file ≤ edition_limits.nodes
    unfolding head_verdict
    nodes-few = sized-nodes edition_limits _ _ _ (head_taken _ _ (rest-taken _ _ (rest-taken _ _ t)))

    links-few : links_read file ≤ edition_limits.links
    unfolding head_verdict
    links-few = sized-links edition_limits _ _ _ (head_taken _ _ (rest-taken _ _ (rest-taken _ _ t)))

    blocks_few : (i : ℕ) → i < block_count (nodes_read file) (links_read file) → i ≤ place_most
    unfolding block_count blocks_for
    blocks_few i l = omega (arith, l, nodes-few, links-few)

    rest-placed : Placed (rest_verdict file rows)
    unfolding rest_verdict
    rest-placed =
        next _ _ (at_zero _ BadLength)
        (λ a. next _ _ (to_placed _ _ (λ i l. block-placed file (nodes_read file) (links_read file) i (blocks_few i l)))
        (λ b. next _ _ (records_placed (net_read file) (omega (arith, nodes_read_lem file, nodes-few)) (omega (arith, links_read_lem file, links-few)))
        (λ d. next _ _ (at_zero _ NoRoom)
        (λ e. next _ _ (at_placed _ (nodes_read file) BadEntry (omega (arith, nodes-few))) (λ f. end)))))

  file_placed : Placed (read_verdict file rows)
  unfolding read_verdict
  file_placed = next _ _ head_placed (λ t. next _ _ (rest-placed t) (λ a. end))

pub read_placed : (file : List ℕ) (rows : Rows) (row : List ℕ) → Placed (read_said file rows row)
unfolding read_said
read_placed file rows row = file_placed file _

ask_placed : (g : Net) (a : Ask) (ordinary detour : ℕ) → Placed (ask_verdict g.nodes g.search.root a ordinary detour)
unfolding ask_verdict
ask_placed g a ordinary detour =
    next _ _ (at_zero _ NoRoom) (λ p. next _ _ (at_zero _ BadStart) (λ q. next _ _ (at_zero _ BadFailed) (λ r. end)))

-- the forwarder: 17 is at a node, since 16 leaves no other
pub forward_placed : (g : Net) (a : Ask) (ordinary detour row : List ℕ) → Placed (forward_said g a ordinary detour row)
unfolding forward_said forward_verdict net_verdict
forward_placed g a ordinary detour row =
    next _ _ (net_placed g)
    (λ t. next _ _ (ask_placed g a _ _)
    (λ f. next _ _
    (if_placed _ NoSwap a.failed (λ q. omega (arith, sized-nodes memory_limits _ _ _ (head_taken _ _ t), (ask_fits _ _ a _ _ f).failed_low)))
    (λ e. end)))

way-placed : (g : Net) (u : ℕ) → u ≤ place_most → Placed (way_verdict g u)
unfolding way_verdict
way-placed g u l = next _ _ (at_zero _ NodeCount) (λ a. next _ _ (if_placed _ NoRoute u (λ q. l)) (λ b. end))

-- the tree distance: 8 is at one of the two nodes asked, and they are 16-bit numbers
pub distance_placed : (g : Net) (u z : ℕ) (row : List ℕ) → u ≤ place_most → z ≤ place_most → Placed (distance_said g u z row)
unfolding distance_said ways_verdict
distance_placed g u z row l k =
    then_placed (ways_verdict g u z) 1 row (next _ _ (way-placed g u l) (λ a. next _ _ (way-placed g z k) (λ b. end)))
