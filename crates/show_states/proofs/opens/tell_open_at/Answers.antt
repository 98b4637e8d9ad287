use Rattle.std.proofs.Common.{◌≡◌, ◌∙◌, sym, ap, [], Some, None, option_map}
use Rattle.smi_journal_entries.specs.Words.{open_at}
use Rattle.show_states.specs.StandingText.{standing_open_line}
use Rattle.sml_writer.proofs.Telling.{tells_again, tells_nothing}
use Rattle.show_states.proofs.opens.tell_open_at.Goals as goal

pub returns-in_ok-waits-in-Some : goal.returns-in_ok-waits-in-Some
returns-in_ok-waits-in-Some g c =
    let waits = c.as_slice.result.now in
    let J = g.S.Standing.behind c.args.standing.now in
    let opened : Some c.in-Some.letter.now ≡ open_at c.args.o J =
    ap (option_map (λ l. l.now)) (sym c.in-Some.is) ∙ c.opened.ensures in (
      waits,
      tells_again c.tell_open.ensures
          (λ i. standing_open_line (c.domain-domain.ensures i) c.args.o (opened i) waits),
    )

pub returns-in-None : goal.returns-in-None
returns-in-None g c =
    let s = c.args.standing.now in
    let d = g.S.Standing.of_domain s in
    let J = g.S.Standing.behind s in
    let opened : None ≡ open_at c.args.o J =
    ap (option_map (λ l. l.now)) (sym c.in-None.is) ∙ c.opened.ensures in
    ([], tells_again tells_nothing (λ i. standing_open_line d c.args.o (opened i) []))
