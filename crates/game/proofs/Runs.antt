-- What holds in every state of a run, by one induction over the run.
use Rattle.std.proofs.Common.{◌≡◌, ℕ, zero, suc, pred, ◌+◌, ◌*◌, ◌<◌, ◌≤◌, min, Bool, true, not, List, [], ◌++◌, length, take, drop, sym, refl, ap, ◌∙◌, append-nil, arith, length-append, take-append-drop, length-take-le, take_all, take-take, take_at}
use mathlib.Core.Bool.{false≢true}
use native.Mathlib.Decide.{ℕ_discrete, dec_lt}
use Rattle.game.specs.Prefix.{Formula, blocks, owner, size, upto, part, positions}
use Rattle.game.specs.Run.{Tests, Phase, playing, lost, over, Rule, Steady, Stuck, Settles, Reaches, start, move, loss, settle, verdict, late}
use Rattle.game.proofs.Count.{count_pos, sum_to_low}
use Rattle.game.proofs.Prefix.{upto_mono, empty, no_size, front_stays, part_long, part_stays, part_new}
use Rattle.game.proofs.Sound.{Sound, starts_sound}
use Rattle.game.proofs.Settled.{Opposed, Alive, passing, potential, potential_top, settle_sound, settle_opposed, settle_alive, settle_less}

-- every block's play meets the rule with the present test of its level
abbrev pub Kept : Formula → Rule → ℕ → List Bool → Tests → Type 0
Kept F Pick d p A = (j : ℕ) → j < d → Pick j (take (upto F j) p) (A (suc j)) (part F j p) ≡ true

-- what a phase adds: after a loss the level is stuck, and the verdict is by the level that lost
abbrev pub Adds : Formula → Phase → ℕ → List Bool → Tests → Type 0
Adds F playing d p A = Unit {0}
Adds F lost d p A = Stuck F d p A
Adds F (over v) d p A = Stuck F d p A × (d ≤ 1) × (v ≡ not (owner F d))

-- what holds in a state that a run reaches
pub record Good (F : Formula) (Pick : Rule) (n k : ℕ) (w : Phase) (d : ℕ) (p : List Bool) (A : Tests) : Type 0 where
  pub deep : d ≤ blocks F
  pub long : length p ≡ upto F d
  pub sound : Sound F A
  pub opposed : Opposed F A
  pub alive : Alive F d p A
  pub kept : Steady F Pick → Kept F Pick d p A
  pub paid : k + potential F A ≤ positions F
  pub turns : n ≡ 3 * k + d + late w
  pub adds : Adds F w d p A

module _ (F : Formula) (Pick : Rule) where
  -- past the last block no move passes
  inside : 0 < blocks F → (d : ℕ) (p s : List Bool) (A : Tests) → d ≤ blocks F → length p ≡ upto F d → Opposed F A → Alive F d p A →
      length s ≡ size F d → A (suc d) (p ++ s) ≡ true → d < blocks F
  inside some d p s A le long op al l yes' = elim (dec_lt d (blocks F)) [ yes h ↦ h | no h ↦ absurd (past d refl (omega arith)) ]
    where
      past : (e : ℕ) → d ≡ e → blocks F ≡ e → ⊥
      past zero i b = omega arith
      past (suc n) i b =
          let none : s ≡ [] = empty s (omega (arith, no_size F d (omega arith))) in
          let whole : take (upto F (suc n)) p ≡ p = take_all (upto F (suc n)) p (omega (arith, ap (upto F) i)) in
          let last : A (suc n) p ≡ true = rw whole at (al n (omega arith)) in
          let next : A (suc d) p ≡ true = rw (none, append-nil) at yes' in
          let turned : A (suc (suc n)) p ≡ not (A (suc n) p) = rw b at (op p (long ∙ ap (upto F) (i ∙ sym b))) in
          false≢true (sym (ap not last) ∙ sym turned ∙ rw i at next)

  moved_alive : (d : ℕ) (p s : List Bool) (A : Tests) → length p ≡ upto F d → length s ≡ size F d → A (suc d) (p ++ s) ≡ true → Alive F d p A → Alive F (suc d) (p ++ s) A
  moved_alive d p s A long l yes' al j lt =
      elim (ℕ_discrete j d) [
        | yes i ↦ rw i (rw (take_all (upto F (suc d)) (p ++ s) (simp length-append (omega arith))) yes')
        | no i ↦ rw (front_stays F (suc j) d p s (omega arith) long) (al j (omega arith))
      ]

  moved_kept : (d : ℕ) (p s : List Bool) (A : Tests) → length p ≡ upto F d → length s ≡ size F d → Pick d p (A (suc d)) s ≡ true → Kept F Pick d p A → Kept F Pick (suc d) (p ++ s) A
  moved_kept d p s A long l picked kept j lt =
      elim (ℕ_discrete j d) [
        | yes i ↦ rw i (rw (take_at p s (upto F d) long, part_new F d p s long l) picked)
        | no i ↦ rw (front_stays F j d p s (omega arith) long, part_stays F j d p s (omega arith) long) (kept j (omega arith))
      ]

  -- a settlement takes back the play of the level whose test changes
  settled_kept : Steady F Pick → (d : ℕ) (p : List Bool) (A B : Tests) → suc (suc d) ≤ blocks F → length p ≡ upto F (suc (suc d)) → Settles F d p A B →
      Kept F Pick (suc (suc d)) p A → Kept F Pick d (take (upto F d) p) B
  settled_kept steady d p A B le long sets kept j lt =
      let front = take (upto F d) p in
      let long' : length front ≡ upto F d = length-take-le (upto F d) p (omega arith) in
      let h : upto F j ≤ upto F d = upto_mono F j d (omega arith) in
      let same_part : part F j front ≡ part F j p = sym (part_stays F j d front (drop (upto F d) p) lt long') ∙ ap (part F j) (take-append-drop (upto F d) p) in
      steady j (take (upto F j) front) (part F j front) (A (suc j)) (B (suc j)) (length-take-le (upto F j) front (omega arith))
      (part_long F j d front lt long') (λ t l. sym (sets.same j (omega arith) (λ q. omega arith) t l))
      (rw (take-take (upto F j) (upto F d) p h, same_part) (kept j (omega arith)))

  -- the one induction
  pub good : 0 < blocks F → {n k : ℕ} {w : Phase} {d : ℕ} {p : List Bool} {A : Tests} → Reaches F Pick n k w d p A → Good F Pick n k w d p A
  good some (start {A = A} st) = record {
    deep = omega arith;
    long = refl;
    sound = starts_sound F some A st;
    opposed = st.past;
    alive = λ j l. absurd (omega arith);
    kept = λ st j l. absurd (omega arith);
    paid = omega (arith, potential_top F A);
    turns = refl;
    adds = tt;
  }
  good some (move {d = d} {p = p} {A = A} r s l yes' picked) =
      let g = good some r in
      record {
        deep = inside some d p s A g.deep g.long g.opposed g.alive l yes';
        long = simp length-append (omega arith);
        sound = g.sound;
        opposed = g.opposed;
        alive = moved_alive d p s A g.long l yes' g.alive;
        kept = λ st. moved_kept d p s A g.long l picked (g.kept st);
        paid = g.paid;
        turns = omega arith;
        adds = tt;
      }
  good some (loss r st) =
      let g = good some r in
      record { deep = g.deep; long = g.long; sound = g.sound; opposed = g.opposed; alive = g.alive; kept = g.kept; paid = g.paid; turns = omega arith; adds = st }
  good some (settle {d = d} {p = p} {A = A} {B = B} r sets) =
      let g = good some r in
      let less = settle_less F d p A B g.deep g.long sets g.alive in
      record {
        deep = omega arith;
        long = length-take-le (upto F d) p (omega arith);
        sound = settle_sound F d p A B g.deep g.long sets g.sound;
        opposed = settle_opposed F d p A B g.deep g.long sets g.opposed;
        alive = settle_alive F d p A B g.deep g.long sets g.alive;
        kept = λ st. settled_kept st d p A B g.deep g.long sets (g.kept st);
        paid = omega arith;
        turns = omega arith;
        adds = tt;
      }
  good some (verdict r le) =
      let g = good some r in
      record { deep = g.deep; long = g.long; sound = g.sound; opposed = g.opposed; alive = g.alive; kept = g.kept; paid = g.paid; turns = g.turns; adds = (g.adds, le, refl) }

  -- each block that is set still has a play that passes, which leaves the fewer for settlements
  pub enough : {n k : ℕ} {w : Phase} {d : ℕ} {p : List Bool} {A : Tests} → Good F Pick n k w d p A → n ≤ 3 * positions F + 1 + late w
  enough {d = d} {p = p} {A = A} g =
      let low : min d (pred (blocks F)) ≤ potential F A = sum_to_low (pred (blocks F)) d (passing F A) some in
      omega arith
    where
      some : (j : ℕ) → j < d → 0 < passing F A (suc j)
      some j l =
          let lx : length (take (upto F (suc j)) p) ≡ upto F (suc j) = length-take-le (upto F (suc j)) p (omega (arith, upto_mono F (suc j) d l)) in
          rw lx at (count_pos (A (suc j)) (take (upto F (suc j)) p) (g.alive j l))
