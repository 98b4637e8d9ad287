-- A schedule has one output.
use Rattle.std.proofs.Common.{◌≡◌, ◌∙◌, sym, ap, subst, refl, ℕ, Bool, true, false, List, [], ◌∷◌, ◌++◌, Option, Some, None, Result, Ok, Err, inl, inr}
use Rattle.std.specs.Prelude.{◌⊎◌}
use Rattle.sml_text.specs.Laws.{SomeReading}
use Rattle.sml_text.specs.Tokens.{Lexeme, Token, TokensOf, BadTokenOf}
use Rattle.sml_text.specs.declared.source.Source.TheVariants as source
use Rattle.smi_world.specs.declared.step.Step.{Step}
use Rattle.smi_world.specs.declared.step.Answer.{Answer}
use Rattle.smi_world.specs.declared.refusal.StepError.{StepError}
use Rattle.smi_world.specs.declared.refusal.StepError.TheVariants as error
use Rattle.smi_world.specs.Runs.{AnswerIsMemory}
use Rattle.smi_world.proofs.One.{run_one}
use Rattle.smi_lines.specs.declared.line.LineError.{LineError}
use Rattle.smi_lines.specs.declared.line.LineError.TheVariants as line
use Rattle.smi_lines.specs.Line.{LineReads, LineAnswers, ReadsTokens, AnswersTokens, step_asked, lexemes, is_line}
use Rattle.smi_lines.specs.Answers.{answer_text}
use Rattle.smi_core.specs.Machines.{CoreView}
use Rattle.sml_text.specs.Lines.{Outputs, lines_of}
use Rattle.smi_core.specs.Output.{Writes, LineWrites, added_in}
use Rattle.smi_core.specs.ScheduleLaws.{OutputOf}

-- what is read and is not out of memory is what is asked
is_asked : (words : List Lexeme) (r : Result (Option Step) LineError) → (r ≡ Err line.Memory → ⊥) → AnswersTokens words r → r ≡ step_asked words
is_asked words (Ok s) other h = h
is_asked words (Err line.BadLine) other h = h
is_asked words (Err line.Memory) other h = absurd (other refl)

read_so : (text : List ℕ) (r s : Result (Option Step) LineError) → (r ≡ Err line.Memory → ⊥) → (s ≡ Err line.Memory → ⊥) → ReadsTokens text r → ReadsTokens text s
    → ((ts : List Token) × TokensOf source.Line text ts) ⊎ ((bad : ℕ) × BadTokenOf source.Line text bad) → r ≡ s
read_so text r s nr ns p q (inl t) = is_asked (lexemes t.0) r nr (p.tokens t.0 t.1) ∙ sym (is_asked (lexemes t.0) s ns (q.tokens t.0 t.1))
read_so text r s nr ns p q (inr b) = p.bad b.0 b.1 ∙ sym (q.bad b.0 b.1)

read_at : SomeReading → (b : Bool) (text : List ℕ) (r s : Result (Option Step) LineError) → (r ≡ Err line.Memory → ⊥) → (s ≡ Err line.Memory → ⊥) → LineAnswers b text r → LineAnswers b text s → r ≡ s
read_at some true text r s nr ns p q = read_so text r s nr ns p q (some source.Line text)
read_at some false text r s nr ns p q = p ∙ sym q

-- unless memory runs out, a line is read in one way
pub reads_one : SomeReading → (text : List ℕ) (r s : Result (Option Step) LineError) → (r ≡ Err line.Memory → ⊥) → (s ≡ Err line.Memory → ⊥) → LineReads text r → LineReads text s → r ≡ s
reads_one some text r s nr ns p q = read_at some (is_line text) text r s nr ns p q

-- what writes something is not out of memory
writes_some : (m : CoreView) (r : Result (Option Step) LineError) (out : List ℕ) (m2 : CoreView) → Writes m r out m2 → r ≡ Err line.Memory → ⊥
writes_some m r out m2 h e = subst (λ x. Writes m x out m2) e h

no_memory : (r : Result Answer StepError) → (r ≡ Err error.Memory → ⊥) → AnswerIsMemory r → ⊥
no_memory (Ok a) other h = h
no_memory (Err error.Memory) other h = other refl
no_memory (Err e) other h = absurd (cc h)

machine_same : (a b : CoreView) → a.setup ≡ b.setup → a.world ≡ b.world → a ≡ b
machine_same a b p q = ap (λ s. record { setup = s; world = a.world }) p ∙ ap (λ w. record { setup = b.setup; world = w }) q

-- what is asked writes in one way
writes_one : (m : CoreView) (r : Result (Option Step) LineError) (out other : List ℕ) (m2 m3 : CoreView) → Writes m r out m2 → Writes m r other m3 → (out ≡ other) × (m2 ≡ m3)
writes_one m (Err line.BadLine) out other m2 m3 p q = (p.0 ∙ sym q.0, p.1 ∙ sym q.1)
writes_one m (Err line.Memory) out other m2 m3 p q = absurd p
writes_one m (Ok None) out other m2 m3 p q = (p.0 ∙ sym q.0, p.1 ∙ sym q.1)
writes_one m (Ok (Some s)) out other m2 m3 p q =
    let same = run_one m.setup m.world (s ∷ []) (p.0 ∷ []) (q.0 ∷ []) m2.world m3.world (no_memory p.0 p.1, tt) (no_memory q.0 q.1, tt) (m2.world, p.2, refl) (m3.world, q.2, refl) in
    let answers : p.0 ≡ q.0 = let h : ◌≡◌ {A = List (Result Answer StepError)} (p.0 ∷ []) (q.0 ∷ []) = same.0 in cc in (
      p.4 ∙ ap (λ r. answer_text m.setup.domain s r (added_in m.world m2.world)) answers ∙ ap (λ w. answer_text m.setup.domain s q.0 (added_in m.world w)) same.1 ∙ sym q.4,
      machine_same m2 m3 (p.3 ∙ sym q.3) same.1,
    )

pub line_one : SomeReading → (m : CoreView) (text out other : List ℕ) (m2 m3 : CoreView) → LineWrites m text out m2 → LineWrites m text other m3 → (out ≡ other) × (m2 ≡ m3)
line_one some m text out other m2 m3 p q =
    writes_one m p.0 out other m2 m3 p.2 (subst (λ r. Writes m r other m3) (reads_one some text q.0 p.0 (writes_some m q.0 other m3 q.2) (writes_some m p.0 out m2 p.2) q.1 p.1) q.2)

-- lines write in one way
lines_one : SomeReading → (m : CoreView) (lines : List (List ℕ)) (out other : List ℕ) (m2 m3 : CoreView) → Outputs LineWrites m lines out m2 → Outputs LineWrites m lines other m3 → (out ≡ other) × (m2 ≡ m3)
lines_one some m [] out other m2 m3 p q = (p.0 ∙ sym q.0, p.1 ∙ sym q.1)
lines_one some m (l ∷ lines) out other m2 m3 p q =
    let here = line_one some m l p.1 q.1 p.0 q.0 p.3 q.3 in
    let rest = lines_one some p.0 lines p.2 q.2 m2 m3 p.4 (subst (λ n. Outputs LineWrites n lines q.2 m3) (sym here.1) q.4) in
    (p.5 ∙ ap (λ a. a ++ p.2) here.0 ∙ ap (λ b. q.1 ++ b) rest.0 ∙ sym q.5, rest.1)

pub output_one : SomeReading → (m : CoreView) (text out other : List ℕ) (m2 m3 : CoreView) → OutputOf m text out m2 → OutputOf m text other m3 → (out ≡ other) × (m2 ≡ m3)
output_one some m text out other m2 m3 p q = lines_one some m (lines_of text) out other m2 m3 p q
