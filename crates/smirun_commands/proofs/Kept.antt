-- The text of a journal that is written in parts.
use Rattle.std.proofs.Common.{◌≡◌, ◌∙◌, sym, ap, subst, ℕ, List, ◌++◌, Option, Result, OnOk, Bool, false, take, drop, append_assoc, take-append-drop}
use Rattle.std.proofs.KnownBytes.{Appends-trans, Appends-kept}
use Rattle.std.proofs.lemmas.List.Concat.{flat_map-append}
use Rattle.std.proofs.lemmas.Result.{on_ok_weaker}
use Rattle.std.specs.Io.KnownBytes.{Appends, Keeps}
use Rattle.sml_domain.specs.Domain.{Domain}
use Rattle.sml_text.specs.Written.{Told, Wrote}
use Rattle.sml_text.proofs.Writes.{wrote_told}
use Rattle.smi_journal_entries.specs.declared.entry.Entry.{Entry}
use Rattle.smi_journal_entries.specs.declared.journal.Format.TheVariants.{Two}
use Rattle.smi_journal.specs.EntryText.{line_text}
use Rattle.smi_journal.specs.JournalText.{header, journal_text, lines_text}

-- the text of the first entries and the lines of the others are the text of all
pub one_text : (d : Domain) (es : List Entry) (n : ℕ) → journal_text Two d (take n es) ++ lines_text d (drop n es) ≡ journal_text Two d es
one_text d es n =
    append_assoc (header Two) (lines_text d (take n es)) (lines_text d (drop n es))
    ∙ ap (λ l. header Two ++ l) (sym (flat_map-append (line_text d) (take n es) (drop n es)) ∙ ap (lines_text d) (take-append-drop n es))

-- a file that has the text of the first entries has that of all once the lines of the others are written out
pub kept_on : (d : Domain) (es more : List Entry) (n : ℕ) (begun old mid new : Option (List ℕ)) (failed : Bool) → more ≡ drop n es → Told old false mid failed (lines_text d more) → failed ≡ false → Keeps mid new → Appends begun old (journal_text Two d (take n es)) → Appends begun new (journal_text Two d es)
kept_on d es more n begun old mid new failed is told none kept before =
    let wrote : Wrote old mid (lines_text d (drop n es)) = subst (λ l. Wrote old mid (lines_text d l)) is (wrote_told old mid (lines_text d more) false (subst (λ k. Told old false mid k (lines_text d more)) none told)) in
    subst (λ text. Appends begun new text) (one_text d es n)
    (Appends-kept begun mid new _ (Appends-trans begun old mid _ _ before wrote.appends) kept)

-- the same where it is written out only if a call succeeds
pub kept_if : {T E : Type 0} (r : Result T E) (d : Domain) (es more : List Entry) (n : ℕ) (old mid new : Option (List ℕ)) (failed : Bool) → more ≡ drop n es → Told old false mid failed (lines_text d more) → OnOk r (failed ≡ false) → Keeps mid new → OnOk r ((begun : Option (List ℕ)) → Appends begun old (journal_text Two d (take n es)) → Appends begun new (journal_text Two d es))
kept_if {T} {E} r d es more n old mid new failed is told none kept =
    on_ok_weaker {T = T} {E = E} {P = failed ≡ false} {Q = (begun : Option (List ℕ)) → Appends begun old (journal_text Two d (take n es)) → Appends begun new (journal_text Two d es)}
    r (λ e begun before. kept_on d es more n begun old mid new failed is told e kept before) none
