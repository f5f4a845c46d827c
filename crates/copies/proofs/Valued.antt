-- The value of joined copies is the `and` of the copies' values.
use Rattle.std.proofs.Common.{◌≡◌, ℕ, ◌+◌, ◌<◌, true, List, [], ◌∷◌, ◌++◌, sym, refl, ap, ◌∙◌, ap₂}
use Rattle.valuation.specs.declared.Value.{Value}
use Rattle.valuation.specs.declared.Value.TheVariants.{Unknown, False, True}
use Rattle.valuation.specs.Three.{and3}
use Rattle.valuation.specs.Circuit.{Pair, Values, nothing, lit, both, Valuation}
use Rattle.copies.specs.Copy.{Part, like, Joined, none, one, two, Copied, no_more, one_more, all_of}
use Rattle.copies.proofs.Literals.{at_node}
use Rattle.copies.proofs.Copied.{at_constant}

and_true : (x : Value) → and3 x True ≡ x
and_true Unknown = refl
and_true False = refl
and_true True = refl

and_assoc : (x y z : Value) → and3 (and3 x y) z ≡ and3 x (and3 y z)
and_assoc False y z = refl
and_assoc True y z = refl
and_assoc Unknown False z = refl
and_assoc Unknown True z = refl
and_assoc Unknown Unknown False = refl
and_assoc Unknown Unknown True = refl
and_assoc Unknown Unknown Unknown = refl

all_append : (v : Values) (xs ys : List ℕ) → all_of v (xs ++ ys) ≡ and3 (all_of v xs) (all_of v ys)
all_append v [] ys = refl
all_append v (a ∷ xs) ys = ap (and3 (lit v a)) (all_append v xs ys) ∙ sym (and_assoc (lit v a) (all_of v xs) (all_of v ys))

module _ (first : ℕ) (old new : List Pair) (part : ℕ → Part) (pos : 0 < first) where
  copied_append : {ks ls xs ys : List ℕ} → Copied first old new part ks xs → Copied first old new part ls ys → Copied first old new part (ks ++ ls) (xs ++ ys)
  copied_append no_more B = B
  copied_append (one_more l c ls cs C A) B = one_more l c _ _ C (copied_append A B)

  -- the copies that a literal joins
  pub record Joins (ls : List ℕ) (e : ℕ) : Type 0 where
    pub cs : List ℕ
    pub copies : Copied first old new part ls cs
    pub valued : (t w : Values) → t 0 ≡ False → Valuation first new nothing t w → lit w e ≡ all_of w cs

  pub joins : {ls : List ℕ} {e : ℕ} → Joined first old new part ls e → Joins ls e
  joins none = record { cs = []; copies = no_more; valued = λ t w z W. at_constant w (W.inputs 0 pos ∙ z) true }
  joins (one l c C) = record { cs = like l c ∷ []; copies = one_more l c [] [] C no_more; valued = λ t w z W. sym (and_true (lit w (like l c))) }
  joins (two ks ls a b A B j i g) =
      let P = joins A in
      let Q = joins B in
      record {
        cs = P.cs ++ Q.cs;
        copies = copied_append P.copies Q.copies;
        valued = λ t w z W. at_node w (first + j) ∙ W.gates j i ∙ ap (both w) g ∙ ap₂ and3 (P.valued t w z W) (Q.valued t w z W) ∙ sym (all_append w P.cs Q.cs);
      }
