-- The table in a row of its own, which has room for every sound network: its verdict is the network's. Assumes nothing.
use mathlib.Core.Path.{◌≡◌, refl, sym, ap, ◌∙◌}
use mathlib.Core.List.{List}
use Prim.Native.Nat.{ℕ}
use Rattle.edition.specs.Refusals.{Verdict, taken}
use Rattle.entries.specs.Row.{past_entries}
use Rattle.network.specs.Network.{Net}
use Rattle.sound.specs.Sound.{net_verdict}
use Rattle.table.specs.Table.{table_verdict, table_row}
use Rattle.table.proofs.Single.{bare_row, bare_verdict}
use Rattle.archive.specs.Work.{Tabled}

module _ (g : Net) (before : List ℕ) (bare : before ≡ bare_row) (v : Verdict) (q : v ≡ table_verdict g before) where
  said : v ≡ table_verdict g bare_row
  said = q ∙ ap (table_verdict g) bare

  pub bare_net : v ≡ net_verdict g
  bare_net = said ∙ bare_verdict g (net_verdict g) refl

  pub bare_tabled : v ≡ taken → (row : List ℕ) → row ≡ table_row g before → Tabled g row
  unfolding table_row
  bare_tabled t row p =
      record {
        ok = sym bare_net ∙ t;
        more = past_entries g.nodes bare_row;
        is = p ∙ (ap (table_row g) bare ∙ rw (sym said ∙ t));
      }
