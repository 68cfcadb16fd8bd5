-- What a standing swap link costs by incr, looked up in the row of links and the survey. Assumes nothing.
use Rattle.std.proofs.Common.{◌≡◌, ℕ, ◌-◌, ◌*◌, ◌^◌, ◌<◌, ◌≤◌, Bool, true, false, ltb, List, get_or, refl, ap, ◌∙◌, subst, arith, ltb-false, ltb-true}
use Rattle.edition.specs.declared.Search.{Search}
use Rattle.edition.specs.Limits.{longest}
use Rattle.network.specs.declared.Link.{Link}
use Rattle.network.specs.Network.{Net, net_of, links_in, link_in, link_from}
use Rattle.network.proofs.Keeping.{link-none}
use Rattle.network.proofs.Whole.{length_held}
use Rattle.tree.specs.Tree.{tree_of}
use Rattle.survey.specs.declared.Known.{Known}
use Rattle.survey.specs.Row.{known_at}
use Rattle.sound.specs.Surveyed.{Surveyed}
use Rattle.sound.proofs.Holding.{root_in, first_in, second_in}
use Rattle.swap.specs.Work.{through}
use Rattle.table.specs.Work.{Starts, Reads, incr_by}
use Rattle.table.proofs.Surveys.{fine, near_is, dist-few}

-- the row of links that a network is made of
module _ (links parents : List ℕ) (search : Search) {survey : List ℕ} (sv : Surveyed (net_of links parents search) survey)
    (held : (i : ℕ) → get_or links i 0 ≤ longest) where
  abbrev g : Net
  g = net_of links parents search

  ends_low : (b : ℕ) → ((link_in links b).first < g.nodes) × ((link_in links b).second < g.nodes)
  unfolding net_of link_from
  ends_low b = go (ltb b (links_in links)) refl
    where
      go : (t : Bool) → ltb b (links_in links) ≡ t → ((link_in links b).first < g.nodes) × ((link_in links b).second < g.nodes)
      go true q = let there = ltb-true b (links_in links) q in (first_in g (fine sv) b there, second_in g (fine sv) b there)
      go false q =
          let none = link-none links b (ltb-false b (links_in links) q) in
          let some = root_in g (fine sv) in
          subst (λ (l : Link). (l.first < g.nodes) × (l.second < g.nodes)) none (omega (arith, some), omega (arith, some))

  pub row_reads : Reads g links
  unfolding net_of
  row_reads =
      record {
        link-is = λ b. refl;
        first-low = λ b. (ends_low b).0;
        second_low = λ b. (ends_low b).1;
        long = length_held links held;
      }

-- a link of the row, and a node
module _ {g : Net} {links survey : List ℕ} {x : ℕ} (st : Starts g survey x) (rd : Reads g links) (b : ℕ) {l : Link} (lq : l ≡ link_in links b) where
  pub first_starts : Starts g survey l.first
  first_starts = record { surveyed = st.surveyed; low = rw lq (rd.first-low b) }

  pub second_starts : Starts g survey l.second
  second_starts = record { surveyed = st.surveyed; low = rw lq (rd.second_low b) }

  pub not-long : l.length ≤ longest
  not-long = rw lq (rd.long b)

  module _ {at : Known} (aq : at ≡ known_at survey x) where
    pub own-fits : 2 * at.near < 2 ^ 64
    own-fits = omega (arith, near_is st.surveyed x st.low at aq, dist-few st.surveyed x)

    pub nearer_is : {k : ℕ} → k ≡ through (tree_of g) l → k - 2 * at.near ≡ incr_by g x b
    unfolding incr_by
    nearer_is kq = omega (arith, kq ∙ ap (through (tree_of g)) (lq ∙ rd.link-is b), near_is st.surveyed x st.low at aq)
