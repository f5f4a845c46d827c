-- Entries of a gate table, written after one another, and set to zero again.
use Rattle.std.proofs.Common.{◌≡◌, ℕ, zero, suc, map, ◌+◌, ◌-◌, ◌<◌, ◌≤◌, List, [], ◌∷◌, ◌++◌, length, get_or, take, drop, set, replicate, sym, refl, ap, ◌∙◌, ap₂, add-zero, arith}
use lib.Seq.{paste}
use Rattle.std.proofs.lemmas.List.{get_or_append_left, get_or-take, append_assoc, map-append, take-map, drop-map, take-append-drop, take-replicate, drop-drop, take_at, take_all, length-append, length-replicate, length-take-le}
use Rattle.std.proofs.lemmas.List.Edits.{paste_none, paste_more, paste-paste, drop-paste, length-paste}
use Rattle.circuit.proofs.Records.{length_pairs}
use Rattle.std.proofs.lemmas.Slice.{put_mid-paste}
use borrow.Rule.Slice.PartMut.{put_mid}
use Rattle.circuit.specs.declared.Gate.{Gate}
use Rattle.circuit.specs.Gates.{empty, pair, pairs}
use Rattle.valuation.specs.Circuit.{Pair, blank}
use Rattle.copying.specs.declared.guard.Making.{Making}
use Rattle.copying.specs.Table.{written, BlankFrom}
use Rattle.copying.specs.Guard.{Grown, Stopped}

module _ (table : List Pair) (from : ℕ) where
  pub written_none : table ≡ written table from []
  written_none = paste_none table from []

  pub written_one : (g : Pair) → from < length table → set table from g ≡ written table from (g ∷ [])
  written_one g h =
      let p = paste_more table from (g ∷ []) 0 g (omega arith) (omega arith) in
      let n = paste_none table from (g ∷ []) in
      let z = add-zero from in
      cc

  pub written_more : (hs ks : List Pair) → from ≤ length table → written (written table from hs) (from + length hs) ks ≡ written table from (hs ++ ks)
  written_more hs ks h = paste-paste table from hs ks (length hs) (length ks) refl refl h ∙ ap (paste table from (hs ++ ks)) (sym (length-append hs ks))

  pub length_written : (hs : List Pair) → from + length hs ≤ length table → length (written table from hs) ≡ length table
  length_written hs h = length-paste table from hs (length hs) h (omega arith)

  pub get_or_written : (hs : List Pair) (k : ℕ) (d : Pair) → k < from → from ≤ length table → get_or (written table from hs) k d ≡ get_or table k d
  get_or_written hs k d h i =
      let l = length-take-le from table i in
      get_or_append_left (take from table ++ take (length hs) hs) (drop (from + length hs) table) d k (omega (arith, length-append (take from table) (take (length hs) hs)))
      ∙ get_or_append_left (take from table) (take (length hs) hs) d k (omega arith) ∙ get_or-take from table k d h

  -- a table that is blank from an entry on, cut there and n entries on
  cut : (n : ℕ) → from + n ≤ length table → BlankFrom table from → (take from table ++ replicate n blank) ++ drop (from + n) table ≡ table
  cut n h b =
      let t : take n (drop from table) ≡ replicate n blank = ap (take n) b ∙ take-replicate n (length table - from) blank (omega arith) in
      let e : replicate n blank ++ drop (from + n) table ≡ drop from table =
      ap (λ x. x ++ drop (from + n) table) (sym t) ∙ ap (λ x. take n (drop from table) ++ x) (sym (drop-drop n from table)) ∙ take-append-drop n (drop from table)
      in append_assoc (take from table) (replicate n blank) (drop (from + n) table) ∙ ap (λ x. take from table ++ x) e ∙ take-append-drop from table

  front : (hs : List Pair) → from + length hs ≤ length table → take from (written table from hs) ≡ take from table
  front hs h =
      ap (take from) (append_assoc (take from table) (take (length hs) hs) (drop (from + length hs) table))
      ∙ take_at (take from table) (take (length hs) hs ++ drop (from + length hs) table) from (length-take-le from table (omega arith))

  -- written and set to zero again
  pub restored : (hs : List Pair) (n : ℕ) → n ≡ length hs → from + length hs ≤ length table → BlankFrom table from → written (written table from hs) from (replicate n blank) ≡ table
  restored hs n s h b =
      let f = front hs h in
      let d = drop-paste table from hs (length hs) (omega arith) (omega arith) in
      let l = length-replicate n blank in
      let r : take (length (replicate n blank)) (replicate n blank) ≡ replicate n blank = take_all (length (replicate n blank)) (replicate n blank) (omega arith) in
      let c = cut n (omega arith) b in
      cc

map_paste : {X Y : Type 0} (f : X → Y) (d : List X) (at : ℕ) (s : List X) (n : ℕ) → map f (paste d at s n) ≡ paste (map f d) at (map f s) n
map_paste f d at s n =
    map-append f (take at d ++ take n s) (drop (at + n) d)
    ∙ ap₂ (λ xs ys. xs ++ ys) (map-append f (take at d) (take n s) ∙ ap₂ (λ xs ys. xs ++ ys) (sym (take-map f at d)) (sym (take-map f n s))) (sym (drop-map f (at + n) d))

pairs_empty : (n : ℕ) → pairs (replicate n empty) ≡ replicate n blank
pairs_empty zero = refl
pairs_empty (suc n) = ap (λ gs. blank ∷ gs) (pairs_empty n)

-- n gates of a table, set to the gate of a free entry
pub pairs_freed : (gs : List Gate) (from k n : ℕ) (ys : List Gate) → n ≡ k → ys ≡ replicate n empty → pairs (put_mid from k gs ys) ≡ written (pairs gs) from (replicate n blank)
pairs_freed gs from k n ys e is =
    ap pairs (put_mid-paste from k gs ys (replicate n empty) n is e (sym (length-replicate n empty)))
    ∙ map_paste pair gs from (replicate n empty) n
    ∙ ap₂ (paste (pairs gs) from) (pairs_empty n) (sym (length-replicate n blank))

-- guards, one after the other
module _ (m : Making) where
  pub grown_none : m.used + m.made ≤ length m.gates.now → Grown m m []
  grown_none h = record {
    first_is = refl;
    used_is = refl;
    made_is = omega arith;
    name_is = refl;
    gates_are = written_none (pairs m.gates.now) (m.used + m.made);
    room = omega arith;
  }

  pub grown_length : (m' : Making) (hs : List Pair) → Grown m m' hs → length m'.gates.now ≡ length m.gates.now
  grown_length m' hs G =
      let p = length_pairs m.gates.now in
      let q = length_pairs m'.gates.now in
      let r = ap length G.gates_are in
      let s = length_written (pairs m.gates.now) (m.used + m.made) hs (omega (arith, G.room)) in
      omega arith

  pub grown_more : (m' m'' : Making) (hs ks : List Pair) → Grown m m' hs → Grown m' m'' ks → Grown m m'' (hs ++ ks)
  grown_more m' m'' hs ks G H =
      let l = length-append hs ks in
      let long = grown_length m' hs G in
      record {
        first_is = H.first_is ∙ G.first_is;
        used_is = H.used_is ∙ G.used_is;
        made_is = omega (arith, H.made_is, G.made_is);
        name_is = H.name_is ∙ G.name_is;
        gates_are = H.gates_are ∙ ap₂ (λ t n. written t n ks) G.gates_are (let e : m'.used + m'.made ≡ m.used + m.made + length hs = omega (arith, G.used_is, G.made_is) in e)
            ∙ written_more (pairs m.gates.now) (m.used + m.made) hs ks (omega (arith, length_pairs m.gates.now, G.room));
        room = omega (arith, H.room, G.used_is, G.made_is);
      }

  pub stopped_after : (m' m'' : Making) (hs : List Pair) (n total : ℕ) → Grown m m' hs → Stopped m' m'' n → length hs + n ≤ total → Stopped m m'' total
  stopped_after m' m'' hs n total G S h = record {
    made = hs ++ S.made;
    grown = grown_more m' m'' hs S.made G S.grown;
    full = omega (arith, S.full, G.used_is, G.made_is, grown_length m' hs G);
  }

  pub stopped_sooner : (m' : Making) (n total : ℕ) → Stopped m m' n → n ≤ total → Stopped m m' total
  stopped_sooner m' n total S h = record { made = S.made; grown = S.grown; full = omega (arith, S.full) }
