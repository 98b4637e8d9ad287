use Rattle.std.proofs.Common.{◌≡◌, ◌∙◌, ◌∷◌, ◌++◌, [], ap, refl, sym, rules, append-nil}
use Rattle.sml_check_build.specs.Programs as says
use Rattle.sml_check_build.proofs.Gathered.{gathered, gathered_all}
use Rattle.sml_check_build.proofs.condition.state_numbers.Goals as goal
use Rattle.sml_check_build.proofs.condition.state_numbers.Goals.{in-Some+in_ok-push, in_default}

-- a state that has a number, or none
pub loop-state-preserved : goal.loop-state-preserved
loop-state-preserved c =
    let made = c.loop-state.numbers.items in
    let x = c.state-item.result in
    let names = c.args.names.now in
    let adds : c.match-number_of.numbers.items ≡ made ++ says.number_list names.states x = elim c.match-number_of.branch [
      | in-Some+in_ok-push w ↦
          let found : says.number_list names.states x ≡ w.new.result ∷ [] = search rules in
          ap (λ v. v.items) w.numbers-is ∙ w.in_ok-push.ensures.items ∙ ap (λ l. made ++ l) (sym found)
      | in_default w ↦
          let none : says.number_list names.states x ≡ [] = search rules in
          ap (λ v. v.items) w.numbers-is ∙ sym (append-nil made) ∙ ap (λ l. made ++ l) (sym none)
    ] in
    gathered (says.state_numbers names) (says.number_list names.states x) made c.match-number_of.numbers.items c.args.states.now c.args.states.now c.loop-state.state-index _ x
    c.loop-state.invariant refl c.loop-state-test.true c.state-item.is (λ zs. refl) adds

pub returns : goal.returns
returns c =
    gathered_all (says.state_numbers c.args.names.now) c.loop-state.numbers.items c.args.states.now c.loop-state.state-index _ c.loop-state.invariant c.loop-state-test.false refl
