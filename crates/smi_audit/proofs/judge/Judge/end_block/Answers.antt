-- A block ends as its track does.
use Rattle.std.proofs.Common.{◌≡◌, refl, ◌∙◌, ◌++◌, ◌∷◌, [], ap, sym, subst}
use Rattle.smi_journal_entries.specs.declared.entry.ActionEnd.TheVariants.{State}
use Rattle.smi_journal_entries.specs.declared.entry.Entry.TheVariants.{End}
use Rattle.smi_meaning.specs.Legal.{MayFollow}
use Rattle.smi_audit.specs.Tracks.{track_at}
use Rattle.smi_audit.proofs.Broken.{end_not_meant, end_good, block_state}
use Rattle.smi_audit.proofs.Followed.{not_ended, is_ended}
use Rattle.smi_audit.proofs.Adding.{adds, track_of, end_added}
use Rattle.smi_ledger.specs.Books.{NamesKnown, DiesOnce}
use Rattle.smi_audit.proofs.judge.Judge.end_block.Goals as goal

pub returns-in_default : goal.returns-in_default
returns-in_default c =
    let j = c.args.self.now in
    end_not_meant j.format j.books.domain j.books.journal c.args.o (State c.args.state) c.requires.open
    (not_ended c.laws_of_following.ensures.ends j.format j.books.domain j.books.journal c.args.o c.args.state
    (track_at j.tracks.items c.args.o) c.requires.logical
    (track_of j c.args.o c.requires.within c.requires.kept) c.in_default.ensures.ends)

pub returns : goal.returns
returns c =
    let j = c.args.self.now in
    let d = j.books.domain in
    let J = j.books.journal in
    let t = track_at j.tracks.items c.args.o in
    let same : c.in-Some.end ≡ c.args.state = cc in
    let legal : MayFollow j.format d J (End c.args.o (State c.args.state)) =
    end_good j.format d J c.args.o (State c.args.state) c.requires.open
    (is_ended c.laws_of_following.ensures.ends j.format d J c.args.o c.args.state c.in-Some.end t _
    c.requires.logical (track_of j c.args.o c.requires.within c.requires.kept) c.in-Some.ensures.ends same)
    (block_state d c.args.o c.args.state c.requires.logical) in
    adds _ _ (End c.args.o (State c.args.state)) refl refl refl c.requires.kept c.requires.within legal
    c.in_ok-add.ensures.domain
    (c.in_ok-add.ensures.journal ∙ ap (λ e. J ++ e ∷ []) c.requires.is)
    (end_added c.laws_of_following.ensures.leaves j.format d J j.tracks.items _ c.args.o c.args.state c.in-Some.end
    c.requires.within c.requires.logical c.requires.kept.tracked c.in-Some.ensures.written
    c.in-Some.ensures.ends same)

pub add-requires-clause-known : goal.add-requires-clause-known
add-requires-clause-known c = subst (NamesKnown c.args.self.now.books.domain) (sym c.requires.is) c.requires.within

pub add-requires-clause-once : goal.add-requires-clause-once
add-requires-clause-once c = subst (DiesOnce c.args.self.now.books.journal) (sym c.requires.is) tt
