-- A file of bytes is accepted exactly when the network read is sound at edition 1's limits, the file is the one file of that
-- network and depth, and the rows have room. Assumes nothing.
use Rattle.std.specs.Prelude.{Err, Ok, Result}
use mathlib.Core.Path.{◌≡◌, refl, sym, subst, ap, ap₂, ◌∙◌}
use mathlib.Core.Bool.{false}
use mathlib.Core.List.{List}
use Prim.Native.Nat.{ℕ, ◌<◌}
use lib.ListN.{get_or}
use Rattle.edition.specs.Refusals.{Verdict, taken}
use Rattle.edition.specs.declared.Why.TheVariants.{NoRoom}
use Rattle.edition.specs.Limits.{memory_limits, lowest_number}
use Rattle.edition.specs.Stored.{edition_limits}
use Rattle.edition.proofs.Within.{edition_within}
use Rattle.rows.proofs.Refusing.{head_taken, rest-taken, both_taken, none_left, if_taken_lem}
use Rattle.network.specs.Network.{net_of}
use Rattle.network.specs.Records.{size_verdict}
use Rattle.network.proofs.Sizes.{sizes_grow}
use Rattle.sound.specs.Sound.{record_verdict, net_verdict}
use Rattle.archive.specs.Writer.{file_of}
use Rattle.archive.specs.declared.Header.{Header}
use Rattle.edition.specs.declared.Refusal.{Refusal}
use Rattle.archive.specs.Reader.{nodes_read, links_read, search_read, head_read, net_read, Rows, too_short, head_verdict, rest_verdict, read_verdict}
use Rattle.archive.specs.Reader.{read_if, read_answer}
use Rattle.archive.proofs.Reading.{nodes_read_lem, links_read_lem}
use Rattle.archive.proofs.AcceptedWritten.{accepted_is_written}
use Rattle.archive.proofs.WrittenAccepted.{all_accepted}

-- every file means tie rule 0: the network read has it, and what the reader answers
module _ (file : List ℕ) where
  pub rule_read : (net_read file).search.rule ≡ lowest_number
  unfolding net_read net_of search_read
  rule_read = refl

  -- the rule of an answer, and 0 of a refusal
  rule_in : Result Header Refusal → ℕ
  rule_in (Ok head) = head.search.rule
  rule_in (Err r) = lowest_number

  pub rule_answered : (rows : Rows) (head : Header) → read_answer file rows ≡ Ok head → head.search.rule ≡ lowest_number
  unfolding read_answer head_read search_read rule_in
  rule_answered rows head h = sym (ap rule_in h) ∙ go (read_verdict file rows)
    where
      go : (v : Verdict) → rule_in (read_if v (head_read file)) ≡ lowest_number
      go (Ok _) = refl
      go (Err r) = refl

-- the network read is sound at edition 1's limits, the file is the one file of that network and depth, and the rows have room
pub record Accepted (file : List ℕ) (rows : Rows) : Type 0 where
  pub sized : size_verdict edition_limits (net_read file).nodes (net_read file).links (net_read file).search ≡ taken
  pub recorded : record_verdict (net_read file) ≡ taken
  pub one : file ≡ file_of (net_read file)
  pub room : too_short (net_read file).nodes (net_read file).links rows ≡ false

module _ (file : List ℕ) (rows : Rows) where
  search_read_lem : (net_read file).search ≡ search_read file
  unfolding net_read net_of
  search_read_lem = refl

  -- a file of bytes that is taken is so
  pub taken_accepted : ((i : ℕ) → get_or file i 0 < 256) → read_verdict file rows ≡ taken → Accepted file rows
  unfolding read_verdict head_verdict rest_verdict
  taken_accepted bytes h =
      let head = head_taken _ _ h in
      let rest = head_taken _ _ (rest-taken _ _ h) in
      let r3 = rest-taken _ _ (rest-taken _ _ rest) in
      record {
        sized =
            ap₂ (λ (n m : ℕ). size_verdict edition_limits n m (net_read file).search) (nodes_read_lem file) (links_read_lem file)
            ∙ (ap (size_verdict edition_limits (nodes_read file) (links_read file)) search_read_lem
            ∙ head_taken _ _ (rest-taken _ _ (rest-taken _ _ head)));
        recorded = head_taken _ _ r3;
        one = accepted_is_written file bytes rows h;
        room =
            ap₂ (λ (n m : ℕ). too_short n m rows) (nodes_read_lem file) (links_read_lem file)
            ∙ if_taken_lem _ NoRoom 0 (head_taken _ _ (rest-taken _ _ r3));
      }

  -- and a file that is so is taken
  pub accepted_taken : Accepted file rows → read_verdict file rows ≡ taken
  unfolding net_verdict
  accepted_taken a =
      let g = net_read file in
      let ok : net_verdict g ≡ taken =
      both_taken _ _ (sizes_grow edition_limits memory_limits edition_within g.nodes g.links g.search a.sized)
      (both_taken _ _ a.recorded none_left) in
      subst (λ (f : List ℕ). read_verdict f rows ≡ taken) (sym a.one)
      (all_accepted g ok a.sized (rule_read file) (ap net_read (sym a.one)) rows a.room)
