-- A worklist finds exactly what some way leads to.
use Rattle.std.proofs.Common.{◌≡◌, ℕ, zero, suc, ◌+◌, ◌-◌, ◌<◌, ◌≤◌, Bool, true, false, cond, ◌||◌, eqb, ◌⊎◌, List, [], ◌∷◌, ◌++◌, length, get_or, set, sym, refl, ap, ◌∙◌, subst, inl, inr, arith}
use Rattle.std.proofs.lemmas.List.{get_or-set_same, get_or-set_other, get_or_append_left, get_or-append_right, length-append}
use Rattle.std.proofs.lemmas.Bool.{cases_eq, cases_Bool, or_cases, or_left, or_right, eq-eqb, eqb-true, true≢false, cond-true, cond-false}
use Rattle.valuation.specs.Sweep.{In, From, begin, go}
use Rattle.splitting.specs.Worklist.{holds, noted}

abbrev pub on : List Bool → ℕ → Type 0
on ms n = get_or ms n false ≡ true

pub on_set : (ms : List Bool) (n m : ℕ) → n < length ms → on ms m → on (set ms n true) m
on_set ms n m h o =
    elim (cases_eq m n) [
      | inl e ↦ rw e (get_or-set_same ms n true false h)
      | inr e ↦ get_or-set_other ms n m true false e ∙ o
    ]

-- a mark after a place is marked is the place's or an old one
pub set_on : (ms : List Bool) (n m : ℕ) → on (set ms n true) m → (m ≡ n) ⊎ on ms m
set_on ms n m o =
    elim (cases_eq m n) [
      | inl e ↦ inl e
      | inr e ↦ inr (sym (get_or-set_other ms n m true false e) ∙ o)
    ]

-- what stands in a list, and where
pub holds_at : (xs : List ℕ) (i : ℕ) → i < length xs → holds xs (get_or xs i 0) ≡ true
holds_at [] i h = absurd (omega arith)
holds_at (x ∷ xs) zero h = or_left (eqb x x) (holds xs x) (eq-eqb x x refl)
holds_at (x ∷ xs) (suc i) h = or_right (eqb x (get_or xs i 0)) (holds xs (get_or xs i 0)) (holds_at xs i (omega arith))

pub place_of : (xs : List ℕ) (n : ℕ) → holds xs n ≡ true → (i : ℕ) × ((i < length xs) × (get_or xs i 0 ≡ n))
place_of [] n e = absurd (true≢false (sym e))
place_of (x ∷ xs) n e =
    elim (or_cases (eqb x n) (holds xs n) e) [
      | inl h ↦ (0, (omega arith, eqb-true x n h))
      | inr h ↦ let i = place_of xs n h in (suc i.0, (omega (arith, i.1.0), i.1.1))
    ]

-- one more at the end
pub holds_end : (xs : List ℕ) (x n : ℕ) → holds (xs ++ (x ∷ [])) n ≡ (holds xs n || eqb x n)
holds_end [] x n = by (eqb x n)
  where
    by : (b : Bool) → (b || false) ≡ b
    by true = refl
    by false = refl
holds_end (y ∷ xs) x n = ap (λ b. eqb y n || b) (holds_end xs x n) ∙ by (eqb y n) (holds xs n) (eqb x n)
  where
    by : (a b c : Bool) → (a || (b || c)) ≡ ((a || b) || c)
    by true b c = refl
    by false b c = refl

-- The places below `done` are gone through: what they lead to stands in the list. Some way leads to each place of the list.
pub record Working (next : ℕ → List ℕ) (start : List ℕ) (order : List ℕ) (done : ℕ) : Type 0 where
  pub reached : (i : ℕ) → i < length order → From next start (get_or order i 0)
  pub closed : (i : ℕ) → i < done → (j : ℕ) → In j (next (get_or order i 0)) → holds order j ≡ true

module _ (next : ℕ → List ℕ) (start : List ℕ) where
  -- some places noted
  pub record Noted (ns order order' : List ℕ) (done : ℕ) : Type 0 where
    pub working : Working next start order' done
    pub kept : (m : ℕ) → holds order m ≡ true → holds order' m ≡ true
    pub all : (m : ℕ) → In m ns → holds order' m ≡ true
    pub front : (i : ℕ) → i < length order → get_or order' i 0 ≡ get_or order i 0
    pub grows : length order ≤ length order'

  -- one place noted
  module _ (order : List ℕ) (n done : ℕ) (before : done ≤ length order) (way : From next start n) (w : Working next start order done) where
    note_new : Noted (n ∷ []) order (order ++ (n ∷ [])) done
    note_new =
        let long = length-append order (n ∷ []) in
        let same = λ (i : ℕ) (h : i < length order). get_or_append_left order (n ∷ []) 0 i h in
        let kept : (m : ℕ) → holds order m ≡ true → holds (order ++ (n ∷ [])) m ≡ true = λ m o. holds_end order n m ∙ or_left (holds order m) (eqb n m) o in
        record {
          working = record {
            reached = λ i h. elim (cases_eq i (length order)) [
              | inl e ↦ subst (From next start) (sym (ap (λ k. get_or (order ++ (n ∷ [])) k 0) e ∙ get_or-append_right order (n ∷ []) (length order) (length order) 0 refl (omega arith) ∙ ap (λ k. get_or (n ∷ []) k 0) (let z : length order - length order ≡ 0 = omega arith in z))) way
              | inr e ↦ subst (From next start) (sym (same i (omega arith))) (w.reached i (omega arith))
            ];
            closed = λ i h j m. kept j (w.closed i h j (subst (λ k. In j (next k)) (same i (omega arith)) m));
          };
          kept = kept;
          all = λ m i. elim i [
            | inl e ↦ holds_end order n m ∙ or_right (holds order m) (eqb n m) (eq-eqb n m (sym e))
            | inr z ↦ absurd z
          ];
          front = same;
          grows = omega arith;
        }

    note_old : holds order n ≡ true → Noted (n ∷ []) order order done
    note_old o = record { working = w; kept = λ m h. h; all = λ m i. elim i [ inl e ↦ rw e o | inr z ↦ absurd z ]; front = λ i h. refl; grows = omega arith }

    note_keeps : Noted (n ∷ []) order (cond (holds order n) order (order ++ (n ∷ []))) done
    note_keeps =
        elim (cases_Bool (holds order n)) [
          | inl e ↦ subst (λ xs. Noted (n ∷ []) order xs done) (sym (cond-true (holds order n) order (order ++ (n ∷ [])) e)) (note_old e)
          | inr e ↦ subst (λ xs. Noted (n ∷ []) order xs done) (sym (cond-false (holds order n) order (order ++ (n ∷ [])) e)) note_new
        ]

  pub notes_keep : (ns order : List ℕ) (done : ℕ) → ((m : ℕ) → In m ns → From next start m) → done ≤ length order → Working next start order done → Noted ns order (noted ns order) done
  notes_keep [] order done ways before w = record { working = w; kept = λ m o. o; all = λ m z. absurd z; front = λ i h. refl; grows = omega arith }
  notes_keep (n ∷ ns) order done ways before w =
      let one = note_keeps order n done before (ways n (inl refl)) w in
      let rest = notes_keep ns (cond (holds order n) order (order ++ (n ∷ []))) done (λ m i. ways m (inr i)) (omega (arith, one.grows)) one.working in
      record {
        working = rest.working;
        kept = λ m o. rest.kept m (one.kept m o);
        all = λ m i. elim i [ inl e ↦ rest.kept m (one.all m (inl e)) | inr j ↦ rest.all m j ];
        front = λ i h. rest.front i (omega (arith, one.grows)) ∙ one.front i h;
        grows = omega (arith, rest.grows, one.grows);
      }

  -- one place gone through: all that it leads to is noted
  pub one_done : (order : List ℕ) (done node : ℕ) → get_or order done 0 ≡ node → done < length order → Working next start order done → Noted (next node) order (noted (next node) order) (done + 1)
  one_done order done node e less w =
      let way : From next start node = subst (From next start) e (w.reached done less) in
      let n = notes_keep (next node) order done (λ m i. go node m way i) (omega arith) w in
      record {
        working = record {
          reached = n.working.reached;
          closed = λ i h j m. elim (cases_eq i done) [
            | inl s ↦ n.all j (subst (λ k. In j (next k)) (ap (λ k. get_or (noted (next node) order) k 0) s ∙ n.front done less ∙ e) m)
            | inr s ↦ n.working.closed i (omega arith) j m
          ];
        };
        kept = n.kept;
        all = n.all;
        front = n.front;
        grows = n.grows;
      }

  -- at the end what some way leads to stands in the list, from start on
  pub all_found : (order : List ℕ) (done : ℕ) → length order ≤ done → ((j : ℕ) → In j start → holds order j ≡ true) → Working next start order done → {n : ℕ} → From next start n → holds order n ≡ true
  all_found order done all begun w (begin i m) = begun i m
  all_found order done all begun w (go i j f m) =
      let l = place_of order i (all_found order done all begun w f) in
      w.closed l.0 (omega (arith, l.1.0)) j (subst (λ k. In j (next k)) (sym l.1.1) m)
