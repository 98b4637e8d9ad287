-- What a line names is one thing.
use Rattle.std.proofs.Common.{◌≡◌, ◌≢◌, ◌∙◌, sym, ap, subst, refl, ℕ, List, Option, Some, None, Result, Ok, Err, IfNone, IfOk}
use Rattle.sml_text.specs.Laws.{SomeReading}
use Rattle.smi_world.specs.declared.step.Step.{Step}
use Rattle.smi_lines.specs.declared.line.LineError.{LineError}
use Rattle.smi_lines.specs.declared.line.LineError.TheVariants as line
use Rattle.smi_lines.specs.Line.{LineReads}
use Rattle.smi_core.proofs.OneOutput.{reads_one}
use Rattle.smi_live_once.specs.Forms.{IsUnmarked}
use Rattle.smi_live_answers.specs.EndWords.{comment_of}
use Rattle.smi_live_answers.specs.Naming.{AnswersObject, NamedView, NamesStart, answer_front, object_answered, plain_answer, with_comment}

-- what was read so is no want of memory
read_some : (r : Result (Option Step) LineError) (x : List ℕ) → object_answered r ≡ Some x → r ≢ Err line.Memory
read_some r x e f =
    let g : ◌≡◌ {A = Option (List ℕ)} None (Some x) = sym (ap object_answered f) ∙ e in
    cc g

-- an answer is that of an object
pub object_there : (plain : List ℕ) (r : Result (Option Step) LineError) (o : Option (List ℕ)) (x : List ℕ) → IsUnmarked plain → LineReads plain r → o ≡ object_answered r → o ≡ Some x → AnswersObject plain x
object_there plain r o x free reads e some = record { unmarked = free; read = r; reads = reads; is_object = sym e ∙ some }

-- what was read as none is none
pub no_object : SomeReading → (plain : List ℕ) (r : Result (Option Step) LineError) (o : Option (List ℕ)) → LineReads plain r → r ≢ Err line.Memory → o ≡ object_answered r → o ≡ None → (x : List ℕ) → AnswersObject plain x → ⊥
no_object some plain r o reads other e none x p =
    let same = reads_one some plain p.read r (read_some p.read x p.is_object) other p.reads reads in
    let f : ◌≡◌ {A = Option (List ℕ)} None (Some x) = sym none ∙ e ∙ sym (ap object_answered same) ∙ p.is_object in
    cc f

-- so it is where it was read
pub none_read : {E : Type 0} → SomeReading → (plain : List ℕ) (r : Result (Option Step) LineError) (o : Result (Option (List ℕ)) E) → LineReads plain r → IfOk o (λ _. r ≢ Err line.Memory) → IfOk o (λ x. x ≡ object_answered r) → IfOk o (λ x. IfNone x ((y : List ℕ) → AnswersObject plain y → ⊥))
none_read some plain r (Ok None) reads other e = no_object some plain r None reads other e refl
none_read some plain r (Ok (Some x)) reads other e = tt
none_read some plain r (Err x) reads other e = tt

-- the parts of a line make the line without SENDER and NUMBER
pub plain_is : (text plain front comment : List ℕ) → plain ≡ with_comment front comment → front ≡ answer_front text → comment ≡ comment_of text → plain ≡ plain_answer text
plain_is text plain front comment e f c = e ∙ ap (λ l. with_comment l comment) f ∙ ap (with_comment (answer_front text)) c

-- where it is no answer, nothing is named
pub none_named : (text plain : List ℕ) → plain ≡ plain_answer text → ((x : List ℕ) → AnswersObject plain x → ⊥) → (v : NamedView) → NamesStart text v → ⊥
none_named text plain e none v h = none v.object (subst (λ l. AnswersObject l v.object) (h.is_plain ∙ sym e) h.answers)
