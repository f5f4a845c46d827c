-- Gates as records and as pairs of literals.
use Rattle.std.proofs.Common.{◌≡◌, ℕ, ◌+◌, ◌*◌, ◌<◌, ◌≤◌, Bool, true, false, List, [], ◌∷◌, ◌++◌, length, get_or, take, drop, set, sym, ap, ◌∙◌, subst, arith}
use Rattle.std.proofs.lemmas.List.{get_or-map, length-map, take-map, length_push, take_more, same_from_push}
use Rattle.valuation.specs.Circuit.{blank, gate, Ascending, Values}
use Rattle.valuation.specs.Sweep.{sweep}
use Rattle.valuation.specs.Reach.{leads, reach}
use Rattle.valuation.proofs.Reaching.{sweep_reach}
use Rattle.circuit.specs.Gates.{pair, pairs}
use Rattle.circuit.specs.declared.Gate.{Gate}

pub length_pairs : (gs : List Gate) → length (pairs gs) ≡ length gs
length_pairs gs = length-map gs pair

pub pair_at : (gs : List Gate) (k : ℕ) (d : Gate) → k < length gs → gate (pairs gs) k ≡ pair (get_or gs k d)
pair_at gs k d h = get_or-map pair gs k d blank h

-- the literals of gate k are below twice any number from its node on
pub reads_below : (gs : List Gate) (first k n : ℕ) (d : Gate) → Ascending first (pairs gs) → k < length gs → first + k ≤ n →
    ((pair (get_or gs k d)).left < 2 * n) × ((pair (get_or gs k d)).right < 2 * n)
reads_below gs first k n d asc h e =
    let a = asc k (omega (arith, length_pairs gs)) in
    let p = pair_at gs k d h in
    (omega (arith, ap (λ q. q.left) p), omega (arith, ap (λ q. q.right) p))

pub pairs_take : (n : ℕ) (gs : List Gate) → pairs (take n gs) ≡ take n (pairs gs)
pairs_take n gs = sym (take-map pair n gs)

-- the sweep from the root's node down, from clear marks
pub reach_marked : (first : ℕ) (gs : List Gate) (v : Values) (ms : List Bool) (root n : ℕ) → Ascending first (pairs gs) → root < first + length gs → first + length gs ≤ length ms →
    ((i : ℕ) → i < first + length gs → get_or ms i false ≡ false) → root < n → first ≤ n → n ≤ first + length gs →
    sweep (leads first (pairs gs) v) n (set ms root true) ≡ reach first (pairs gs) v root ++ drop (first + length gs) ms
reach_marked first gs v ms root n asc =
    subst (λ s. root < first + s → first + s ≤ length ms → ((i : ℕ) → i < first + s → get_or ms i false ≡ false) → root < n → first ≤ n → n ≤ first + s →
    sweep (leads first (pairs gs) v) n (set ms root true) ≡ reach first (pairs gs) v root ++ drop (first + s) ms)
    (length_pairs gs) (sweep_reach first (pairs gs) v ms root n asc)

-- `left` are the first elements of xs, and `kept` are they without the last, which is x
pub record TakenBack {X : Type 0} (xs left kept : List X) (x : X) : Type 0 where
  pub longer : length left ≡ length kept + 1
  pub kept_first : kept ≡ take (length kept) xs
  pub last : x ≡ get_or xs (length kept) x

pub taken_back : {X : Type 0} (xs left kept : List X) (x : X) → left ≡ kept ++ (x ∷ []) → length left ≤ length xs → left ≡ take (length left) xs → TakenBack xs left kept x
taken_back xs left kept x is few first =
    let longer : length left ≡ length kept + 1 = ap length is ∙ length_push kept x in
    let same = same_from_push _ _ _ _ (sym is ∙ first ∙ ap (λ n. take n xs) longer ∙ take_more xs (length kept) x (omega arith)) in
    record { longer = longer; kept_first = same.0; last = same.1 }
