-- A list of alternating blocks has the game of its formula.
use Rattle.std.proofs.Common.{◌≡◌, ℕ, zero, suc, ◌<◌, Bool, true, false, not, List, [], ◌∷◌, ◌++◌, map, length, get_or, drop, sym, refl, ap, ◌∙◌, arith}
use mathlib.Core.Path.{fun_ext}
use Rattle.game.specs.Prefix.{Formula, head0, tail, owner, rest}
use Rattle.game.specs.Game.{some_of, every_of, Block, game_value, value, Alternates, formula_of, SameGame}

-- the owners are in turn o, its opponent, o, ..
abbrev InTurn : Bool → List Block → Type 0
InTurn o [] = Unit {0}
InTurn o (b ∷ bs) = (b.player ≡ o) × InTurn (not o) bs

in_turn : (b : Block) (bs : List Block) (o : Bool) → b.player ≡ o → Alternates (b ∷ bs) → InTurn o (b ∷ bs)
in_turn b [] o e a = (e, tt)
in_turn b (c ∷ bs) o e a = (e, in_turn c bs (not o) (a.0 ∙ ap not e) a.1)

same_value : (m : List Bool → Bool) (o : Bool) (bs : List Block) (t : List Bool) → InTurn o bs → value m o (map (λ c. c.width) bs) t ≡ game_value m bs t
same_value m o [] t f = refl
same_value m true (b ∷ bs) t f = rw f.0 (ap (some_of b.width) (fun_ext (λ s. same_value m false bs (t ++ s) f.1)))
same_value m false (b ∷ bs) t f = rw f.0 (ap (every_of b.width) (fun_ext (λ s. same_value m true bs (t ++ s) f.1)))

next_owner : (x b : Block) (bs : List Block) → Alternates (b ∷ bs) → (d : ℕ) → suc d < length (b ∷ bs) → (get_or (b ∷ bs) (suc d) x).player ≡ not (get_or (b ∷ bs) d x).player
next_owner x b [] a d l = absurd (omega arith)
next_owner x b (c ∷ bs) a zero l = a.0
next_owner x b (c ∷ bs) a (suc d) l = next_owner x c bs a.1 d (omega arith)

same_owner : (m : List Bool → Bool) (b : Block) (bs : List Block) → Alternates (b ∷ bs) → (d : ℕ) → d < length (b ∷ bs) → owner (formula_of m b bs) d ≡ (get_or (b ∷ bs) d b).player
same_owner m b bs a zero l = refl
same_owner m b bs a (suc d) l = ap not (same_owner m b bs a d (omega arith)) ∙ sym (next_owner b b bs a d l)

tail_drop : (d : ℕ) (ks : List ℕ) → tail (drop d ks) ≡ drop (suc d) ks
tail_drop zero [] = refl
tail_drop zero (k ∷ ks) = refl
tail_drop (suc d) [] = refl
tail_drop (suc d) (k ∷ ks) = tail_drop d ks

rest_drop : (F : Formula) (d : ℕ) → rest F d ≡ drop d F.sizes
rest_drop F zero = refl
rest_drop F (suc d) = ap tail (rest_drop F d) ∙ tail_drop d F.sizes

same_size : (x : Block) (bs : List Block) (d : ℕ) → d < length bs → head0 (drop d (map (λ c. c.width) bs)) ≡ (get_or bs d x).width
same_size x [] d l = absurd (omega arith)
same_size x (b ∷ bs) zero l = refl
same_size x (b ∷ bs) (suc d) l = same_size x bs d (omega arith)

pub same_game : SameGame
same_game m b bs a = record {
  values = same_value m b.player (b ∷ bs) [] (in_turn b bs b.player refl a);
  owners = same_owner m b bs a;
  sizes = λ d l. ap head0 (rest_drop (formula_of m b bs) d) ∙ same_size b (b ∷ bs) d l;
}
