-- What is noted of a request is what its end sent.
use Rattle.std.proofs.Common.{◌≡◌, ◌<◌, ◌∙◌, ◌++◌, ◌∷◌, [], sym, ap, ℕ, List, length, rules, arith, set, get_or}
use Rattle.std.proofs.lemmas.List.{length-map}
use Rattle.std.specs.Prelude.{Vec}
use Rattle.std.specs.Global.{Global}
use Rattle.sml_domain.specs.declared.value.Value.{Value}
use Rattle.smi_journal_entries.specs.declared.letter.Letter.{Letter}
use Rattle.smi_run_report.specs.declared.told.Accepted.{Accepted}
use Rattle.smi_run_report.specs.Told.{accepted_of, rows_of}
use Rattle.smi_run_runtime.proofs.Accepting.{posted_rows, posted_long}
use Rattle.smi_run_runtime.proofs.session.Session.send.Goals as goal

pub invariant_of-self-2 : goal.invariant_of-self-2
invariant_of-self-2 g c =
    let o = c.args.addressed.object in
    let was = c.self.inside.accepted.items in
    let lt : o < length was = omega (arith, c.requires.within, c.self.invariant.1) in
    let n = c.in-Ok.number in
    let sent = c.in-Ok.ensures.sent in
    let grown = rows_of c.grow_row.new.rows.items in
    let now = rows_of c.add_accepted.new.rows.items in
    let p = c.get-place.result in
    let x : Letter = record c.args.addressed.envelope { number = n } in
    let y : Accepted = record { number = n; action = c.args.addressed.action; args = c.args.addressed.args } in
    let alike : y ≡ accepted_of x =
    sym (ap (λ (a : ℕ). record { number = n; action = a; args = x.args }) c.requires.action ∙ ap (λ (l : List Value). record { number = n; action = c.args.addressed.action; args = l }) c.requires.args) in
    let end = c.self.inside.end in
    let added : now ≡ set grown p (get_or grown p [] ++ y ∷ []) = c.add_accepted.ensures in (
      posted_rows end c.post.new.self was grown now o p x y c.self.invariant.0 c.grow_row.ensures.same c.get-place.ensures lt sent.1 alike added,
      sym (length-map c.add_accepted.new.rows.items (λ (v : Vec Accepted Global). v.items))
          ∙ posted_long end c.post.new.self was grown now o p x y c.self.invariant.0 c.grow_row.ensures.same c.get-place.ensures lt sent.1 alike added
          ∙ c.self.invariant.1,
    )
