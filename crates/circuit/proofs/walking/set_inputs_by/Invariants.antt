use Rattle.std.proofs.Common.{◌≡◌, ℕ, ◌<◌, List, map, length, take}
use Rattle.valuation.specs.declared.Value.{Value}
use Rattle.valuation.specs.Circuit.{reads, input_values, settings_from}
use Rattle.circuit.specs.Setting.{GivesIn}
use Rattle.circuit.proofs.walking.set_inputs_by.Given as goal

-- the inputs so far have their values
abbrev pub invariant-loop-node : goal.invariant-loop-node
invariant-loop-node g l =
    (length l.inputs ≡ length l.initial.inputs) ×
    ((c : ℕ) (settings : List Value) → c < g.K.Kind.CASES → GivesIn (λ v. g.K.Kind.at v c) (goal.F-post g l.setting) l.count settings →
    map (λ v. g.K.Kind.at v c) (take l.node l.inputs) ≡ input_values l.node (reads l.forced) (settings_from l.start settings))
