use Rattle.std.proofs.Common.{◌∙◌, ◌++◌, ap, refl, sym}
use Rattle.smi_live_loop.specs.Turns.{log_text, kept_of}
use Rattle.smi_live_loop.proofs.Rounds.{heard_turn, texts_turn}
use Rattle.smi_live_loop.proofs.live_loop.make_turn.Goals as goal

pub returns-in-Ok-take-clause-ok : goal.returns-in-Ok-take-clause-ok
returns-in-Ok-take-clause-ok g c =
    let f = c.in-Ok.ensures in
    let s = c.in-Ok-take.ensures in (
      record { own = f.0; came = s.0 },
      record { mid = c.go_on.new.machine; one = c.go_on.new.made.text.items; two = s.1; first = f.2; second = s.3; both = s.5 },
      heard_turn _ _ _ _ f.0 s.0 c.next-fed.result c.in-Ok.has_moved f.1 s.2 c.next-fed.ensures,
      s.4 ∙ ap (λ l. l ++ log_text (kept_of s.0)) f.3 ∙ sym (texts_turn f.0 s.0),
    )
