use Rattle.std.proofs.Common.{◌++◌, refl}
use Rattle.show_states.specs.StandingText.{standing_states}
use Rattle.sml_writer.proofs.Telling.{then_tells}
use Rattle.show_states.proofs.standing.tell_past.Goals as goal

pub returns : goal.returns
returns g c =
    let p = c.args.past.now in
    let params = c.tell_params.ensures in
    let opens = c.in_ok-tell_opens.ensures in
    let more = c.as_slice.result.now in (
      standing_states p.books.domain p.books.journal ++ (params.0 ++ (opens.0 ++ more)),
      record {
        params = params.0;
        opens = opens.0;
        more = more;
        are_params = params.1;
        are_opens = opens.1;
        whole = refl;
      },
      then_tells c.tell_states.ensures (then_tells params.2 (then_tells opens.2 c.say.ensures)),
    )
