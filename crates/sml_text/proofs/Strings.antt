-- A string, of which no more than one byte past the limit is looked at.
use Rattle.std.proofs.Common.{◌≡◌, ◌≤◌, ◌<◌, ◌+◌, ℕ, List, refl, ap, ◌∙◌, subst, true, false, arith, length, take, drop, length-take, ⊎_elim}
use Rattle.std.specs.Prelude.{nat_le}
use Rattle.std.proofs.lemmas.Bool.Decides.{nat_tests}
use Rattle.std.proofs.lemmas.Bool.{cases_lt}
use Rattle.std.proofs.lemmas.List.{take_all}
use Rattle.sml_text.specs.Bytes.{is_string_byte}
use Rattle.sml_text.specs.Scan.{span, passes_first, is_quote, string_front}
use Rattle.sml_text.specs.declared.front.Front.TheVariants.{Str as AStr, Bad}
use Rattle.sml_text.specs.declared.limits.TheConstants.{LONGEST_STRING}
use Rattle.sml_text.proofs.Spans.{span_head, span_head_all, span_within}

-- a prefix within the limit is seen whole
pub short_span : (text : List ℕ) (k n : ℕ) → n ≡ span is_string_byte (take k text) → k ≤ length text → (k < LONGEST_STRING + 1 → length text ≤ k) → n ≤ LONGEST_STRING → n ≡ span is_string_byte text
short_span text k n e within whole short = ⊎_elim
    (λ (less : span is_string_byte (take k text) < k). e ∙ span_head is_string_byte k text less)
    (λ (all : k ≤ span is_string_byte (take k text)). e ∙ ap (span is_string_byte) (take_all k text (whole (omega (arith, all, e, short)))))
    (cases_lt (span is_string_byte (take k text)) k)

pub long_span : (text : List ℕ) (k n : ℕ) → n ≡ span is_string_byte (take k text) → k ≤ length text → k ≤ LONGEST_STRING + 1 → LONGEST_STRING < n → nat_le (span is_string_byte text) LONGEST_STRING ≡ false
long_span text k n e within most long =
    let w = span_within is_string_byte (take k text) in
    let l = length-take k text in
    let h = span_head_all is_string_byte k text (omega (arith, long, e, most)) in
    let g : LONGEST_STRING < span is_string_byte text = omega (arith, h, w, l, long, e) in
    grind (arith, nat_tests)

pub string_good : (text : List ℕ) (n : ℕ) → n ≡ span is_string_byte text → n ≤ LONGEST_STRING → passes_first is_quote (drop n text) ≡ true → AStr n ≡ string_front text
string_good text n e short quote =
    let fits : nat_le (span is_string_byte text) LONGEST_STRING ≡ true = grind (arith, nat_tests) in
    let closed : passes_first is_quote (drop (span is_string_byte text) text) ≡ true = subst (λ k. passes_first is_quote (drop k text) ≡ true) e quote in
    ap AStr e ∙ rw (fits, closed) refl

pub string_open : (text : List ℕ) (n : ℕ) → n ≡ span is_string_byte text → n ≤ LONGEST_STRING → passes_first is_quote (drop n text) ≡ false → Bad ≡ string_front text
string_open text n e short quote =
    let fits : nat_le (span is_string_byte text) LONGEST_STRING ≡ true = grind (arith, nat_tests) in
    let closed : passes_first is_quote (drop (span is_string_byte text) text) ≡ false = subst (λ k. passes_first is_quote (drop k text) ≡ false) e quote in
    rw (fits, closed) refl

pub string_long : (text : List ℕ) → nat_le (span is_string_byte text) LONGEST_STRING ≡ false → Bad ≡ string_front text
string_long text e = rw e refl
