-- A device's action that runs ends in a state of its class.
use Rattle.std.proofs.Common.{◌≡◌, ◌∙◌, true, refl, sym, ap, ◌++◌, ◌∷◌, [], subst}
use Rattle.std.specs.Prelude.{is_some}
use Rattle.sml_domain.specs.Lookups.{is_state_of}
use Rattle.smi_journal_entries.specs.declared.entry.ActionEnd.TheVariants.{State}
use Rattle.smi_journal_entries.specs.declared.entry.Entry.TheVariants.{End}
use Rattle.smi_meaning.specs.Legal.{MayFollow}
use Rattle.smi_meaning.specs.Params.{running_at}
use Rattle.smi_audit.proofs.Broken.{end_good, device_means, device_state}
use Rattle.smi_audit.proofs.Adding.{adds, device_added}
use Rattle.smi_ledger.specs.Books.{NamesKnown, DiesOnce}
use Rattle.smi_audit.proofs.judge.Judge.end_device.Goals as goal

pub returns : goal.returns
returns c =
    let j = c.args.self.now in
    let d = j.books.domain in
    let J = j.books.journal in
    let runs : is_some (running_at j.format d c.args.o J) ≡ true = sym c.runs.ensures ∙ c.if-not-runs.false in
    let state : is_state_of d c.args.o c.args.state ≡ true =
    ap (λ x. is_state_of x c.args.o c.args.state) (sym c.domain.ensures) ∙ sym c.is_state.ensures
    ∙ c.if-not-is_state.false in
    let legal : MayFollow j.format d J (End c.args.o (State c.args.state)) =
    end_good j.format d J c.args.o (State c.args.state) c.requires.open
    (device_means j.format d J c.args.o c.args.state c.requires.device runs)
    (device_state d c.args.o c.args.state c.requires.device state) in
    adds _ _ (End c.args.o (State c.args.state)) refl refl refl c.requires.kept c.requires.within legal
    c.in_ok-add.ensures.domain
    (c.in_ok-add.ensures.journal ∙ ap (λ e. J ++ e ∷ []) c.requires.is)
    (device_added j.format d J j.tracks.items _ c.args.o c.args.state c.requires.within c.requires.device
    c.requires.kept.tracked c.cut_in.ensures)

pub add-requires-clause-known : goal.add-requires-clause-known
add-requires-clause-known c = subst (NamesKnown c.args.self.now.books.domain) (sym c.requires.is) c.requires.within

pub add-requires-clause-once : goal.add-requires-clause-once
add-requires-clause-once c = subst (DiesOnce c.args.self.now.books.journal) (sym c.requires.is) tt
