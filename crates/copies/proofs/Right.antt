-- A settlement on the computed values.
use Rattle.std.proofs.Common.{◌≡◌, ℕ, ◌+◌, ◌*◌, ◌/◌, ◌<◌, List, ◌++◌, length, sym, ap, ◌∙◌, ap₂}
use Rattle.valuation.specs.Three.{not3, and3}
use Rattle.valuation.specs.Circuit.{Pair, Ascending, Values, nothing, negated, signed, Valuation, reads, node_values}
use Rattle.valuation.proofs.Nodes.{appending_keeps}
use Rattle.valuation.proofs.Computed.{equations_hold}
use Rattle.copies.specs.Copy.{Part, forced_by}
use Rattle.copies.specs.Make.{joined, settle_gates}
use Rattle.copies.specs.Claims.{MadeWell, SettledWell, SettlementRight, RootValued, RootValue, value}
use Rattle.copies.proofs.Settled.{at_root, settles_just, settles_falls, settles_own}
use Rattle.copies.proofs.Valued.{joins}
use Rattle.copies.proofs.Making.{settlement_made}

module _ (first : ℕ) (old more : List Pair) (part : ℕ → Part) (core : List ℕ) (e r q m : ℕ) (asc : Ascending first old) (pos : 0 < first)
    (M : MadeWell first old (old ++ more) part core e r m) (rin : r / 2 < first + length old) (qin : q / 2 < first + length old) where
  abbrev new : List Pair
  new = old ++ more

  before : (F t : Values) → Valuation first old F t (reads (node_values first old F t))
  before F t = (equations_hold first old F t asc).1

  after : (F t : Values) → Valuation first new F t (reads (node_values first new F t))
  after F t = (equations_hold first new F t M.ascending).1

  earlier : (F t : Values) (l : ℕ) → l / 2 < first + length old → value first new F t l ≡ value first old F t l
  earlier F t l i = ap (signed (negated l)) (appending_keeps first old more F t _ _ asc (before F t) (after F t) (l / 2) i)

  pub settled : SettledWell first old new part core r (2 * (first + m)) q
  settled = record {
    ascending = M.ascending;
    earlier = earlier;
    falls = λ t h. settles_falls first new t _ e r m M.inside M.root (after nothing t) (earlier nothing t r rin ∙ h);
    own = λ t t' z a h. settles_own first old new part t t' _ _ core e r m pos z M.copies M.inside M.root (before nothing t') (after nothing t) a h;
    just = λ t t' s z a b x alive h.
        settles_just first old new part t t' s _ _ _ core e r q m asc pos z M.copies M.inside M.root (before nothing t') (after nothing t) a (before (forced_by core) s) b qin x
        (λ d. alive (sym (earlier nothing t r rin) ∙ d)) h;
  }

  pub root_valued : RootValued first old new part core r (2 * (first + m))
  root_valued =
      let J = joins first old new part pos M.copies in
      record {
        cs = J.cs;
        copies = J.copies;
        valued = λ t z. at_root first new t _ e r m M.inside M.root (after nothing t) ∙ ap₂ (λ x y. and3 x (not3 y)) (earlier nothing t r rin) (J.valued t _ z (after nothing t));
      }

pub settlement_right : SettlementRight
settlement_right first old part core r q asc pos rin qin fits =
    settled first old (settle_gates first old part core r) part core (joined first old part core).literal r q (length (old ++ (joined first old part core).gates)) asc pos
    (settlement_made first old part core r asc pos rin fits) rin qin

pub root_value : RootValue
root_value first old part core r asc pos rin fits =
    root_valued first old (settle_gates first old part core r) part core (joined first old part core).literal r r (length (old ++ (joined first old part core).gates)) asc pos
    (settlement_made first old part core r asc pos rin fits) rin rin
