-- One object more.
use Rattle.std.proofs.Common.{◌≡◌, ◌<◌, ◌≤◌, get_or, sym, subst, arith, ⊎_elim}
use Rattle.std.proofs.lemmas.Bool.{cases_lt}
use Rattle.sml_outset.specs.Suits.{StandSuits}
use Rattle.sml_outset.proofs.Made.{read_as}
use Rattle.sml_outset.proofs.suiting.stands_suit.Goals as goal

pub loop-o-preserved : goal.loop-o-preserved
loop-o-preserved c = λ k s less.
    let d = c.args.domain.now in
    let stands = c.args.stands.now in
    let o = c.loop-o.o in
    ⊎_elim
    (λ (below : k < o). c.loop-o.invariant k s below)
    (λ (le : o ≤ k).
    let is : o ≡ k = omega (arith, le, less) in
    let here : get_or stands o s ≡ c.index-stands-o.result = read_as stands o c.index-stands-o.result s (omega (arith, c.loop-o-test.true)) c.index-stands-o.is in
    subst (λ j. StandSuits d j (get_or stands j s)) is
    (subst (StandSuits d o) (sym here) (subst (λ j. StandSuits d j c.index-stands-o.result) c.new.ensures (c.stand_suits.ensures.0 c.if-not-stand_suits.false))))
    (cases_lt k o)
