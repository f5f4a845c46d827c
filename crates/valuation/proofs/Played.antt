-- The values that a walk leaves where the inputs were set and nothing is forced. Assumes nothing.
use Rattle.std.proofs.Common.{◌≡◌, ℕ, ◌+◌, ◌<◌, List, ◌++◌, map, length, take, replicate, sym, refl, ap, ◌∙◌, inl, inr, arith}
use Rattle.std.proofs.lemmas.List.{map-id, take_at, get_or-take, get_or-replicate, get_or_past, length-replicate}
use Rattle.std.proofs.lemmas.Bool.{cases_lt}
use Rattle.valuation.specs.declared.Value.{Value}
use Rattle.valuation.specs.declared.Value.TheVariants.{Unknown}
use Rattle.valuation.specs.Circuit.{Pair, Ascending, nothing, reads, settings_from, input_values, values_of, node_values}
use Rattle.valuation.proofs.Computed.{same_inputs}

-- a list of unknowns forces nothing
pub none_forced : (size n : ℕ) → reads (replicate size Unknown) n ≡ Unknown
none_forced size n =
    elim (cases_lt n size) [ inl inside ↦ get_or-replicate size n Unknown Unknown inside | inr past ↦ get_or_past (replicate size Unknown) n Unknown (omega (arith, length-replicate size Unknown)) ]

module _ (first m count : ℕ) (gs : List Pair) (play unforced inputs post values : List Value) (ascending : Ascending first gs) (size : ℕ) (blank : unforced ≡ replicate size Unknown)
    (all_set : m ≡ first) (long : length inputs ≡ first) (counted : count ≡ length gs)
    (set : map (λ v. v) inputs ≡ input_values m (reads unforced) (settings_from 1 play))
    (walked : map (λ v. v) (take (first + count) values) ≡ values_of gs (reads unforced) (map (λ v. v) (take first (inputs ++ post)))) where
  pub all : take (first + count) values ≡ node_values first gs nothing (settings_from 1 play)
  all =
      sym (map-id (take (first + count) values)) ∙ walked ∙ ap (λ xs. values_of gs (reads unforced) (map (λ v. v) xs)) (take_at inputs post first long)
      ∙ ap (values_of gs (reads unforced)) (set ∙ ap (λ k. input_values k (reads unforced) (settings_from 1 play)) all_set)
      ∙ same_inputs first gs (reads unforced) nothing (settings_from 1 play) (settings_from 1 play) ascending (λ n lt. ap (λ xs. reads xs n) blank ∙ none_forced size n) (λ n lt. refl)

  pub read : (n : ℕ) → n < first + count → reads values n ≡ reads (node_values first gs nothing (settings_from 1 play)) n
  read n lt = sym (get_or-take (first + count) values n Unknown lt) ∙ ap (λ xs. reads xs n) all
