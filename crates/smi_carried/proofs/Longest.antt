-- All that goes along.
use Rattle.std.proofs.Common.{◌≡◌, ◌∙◌, sym, ap, subst, inl, inr, ℕ, ◌≤◌, ◌+◌, List, [], ◌∷◌, ◌++◌, append_assoc, length, length-append, arith}
use Rattle.std.specs.Prelude.{◌⊎◌}
use Rattle.sml_domain.specs.Domain.{Domain}
use Rattle.smi_carried.specs.declared.carried.CarriedCounts.{CarriedCounts}
use Rattle.smi_carried.specs.Carried.{CarriedView, OnceView}
use Rattle.smi_carried.specs.CarriedText.{carried_counts_text, carried_names_text, carried_once_line, carried_text}
use Rattle.smi_carried.specs.Counts.{BeginsWithCount, CountsAreAll}
use Rattle.smi_carried.specs.Onces.{OncesAreMost, OncesMayGo}
use Rattle.smi_carried.specs.Reading.{CarriedIsHeld, IsLongest, OneCarried}
use Rattle.smi_carried.specs.Suits.{CarriedSuits}
use Rattle.smi_carried.proofs.Counted.{counts_text_from, one_counts}
use Rattle.smi_carried.proofs.Named.{names_no_count, once_no_count, one_names}

names_may : (d : Domain) (c : CarriedView) → CarriedSuits d c → CarriedIsHeld c → OncesMayGo d c.names
names_may d c suits held = record { few = suits.few; each = suits.each; once = suits.once; held = held.names }

module _ (d : Domain) (text : List ℕ) (counts : List CarriedCounts) (names : List OnceView) (between rest : List ℕ)
    (first : text ≡ carried_counts_text d counts ++ between) (second : between ≡ carried_names_text d names ++ rest)
    (all : CountsAreAll d text counts between) (most : OncesAreMost d between rest) where
  pub carried_whole : text ≡ (carried_counts_text d counts ++ carried_names_text d names) ++ rest
  carried_whole =
      first ∙ ap (λ l. carried_counts_text d counts ++ l) second ∙ sym (append_assoc (carried_counts_text d counts) (carried_names_text d names) rest)

  -- after no other comes less text
  no_less : (xs : List OnceView) (more : List ℕ) → BeginsWithCount (carried_names_text d xs ++ more) → length between ≤ length (carried_names_text d xs ++ more)
      → length rest ≤ length more
  no_less [] more begins le =
      let s : length between ≡ length (carried_names_text d names) + length rest = ap length second ∙ length-append (carried_names_text d names) rest in
      omega (arith, s, le)
  no_less (x ∷ xs) more begins le =
      absurd (once_no_count d x (carried_names_text d xs ++ more) (subst BeginsWithCount (append_assoc (carried_once_line d x) (carried_names_text d xs) more) begins))

  after_other : (other : CarriedView) (more : List ℕ) → OncesMayGo d other.names
      → ((other.counts ≡ counts) × (carried_names_text d other.names ++ more ≡ between))
      ⊎ (BeginsWithCount (carried_names_text d other.names ++ more) × (length between ≤ length (carried_names_text d other.names ++ more)))
      → length rest ≤ length more
  after_other other more may (inl same) = most other.names more may (sym same.1)
  after_other other more may (inr b) = no_less other.names more b.0 b.1

  pub carried_longest : IsLongest d text (record { counts = counts; names = names })
  carried_longest other more suits held e =
      let parts = e ∙ append_assoc (carried_counts_text d other.counts) (carried_names_text d other.names) more in
      let less = after_other other more (names_may d other suits held)
      (all other.counts (carried_names_text d other.names ++ more) suits.objects held.counts parts) in
      let one : length text ≡ length (carried_text d other) + length more = ap length e ∙ length-append (carried_text d other) more in
      let two : length text ≡ length (carried_counts_text d counts ++ carried_names_text d names) + length rest
      = ap length carried_whole ∙ length-append (carried_counts_text d counts ++ carried_names_text d names) rest in
      omega (arith, less, one, two)

pub one_carried : OneCarried
one_carried d x y sound names sx sy hx hy e =
    let texts : carried_counts_text d x.counts ++ carried_names_text d x.names ≡ carried_counts_text d y.counts ++ carried_names_text d y.names = e in
    let size : length x.counts ≡ length y.counts = sx.objects ∙ sym sy.objects in
    let fit = sx.objects in
    let counts = one_counts d sound names 0 x.counts y.counts (carried_names_text d x.names) (carried_names_text d y.names) size (omega (arith, fit))
    hx.counts hy.counts (names_no_count d x.names) (names_no_count d y.names)
    (ap (λ l. l ++ carried_names_text d x.names) (sym (counts_text_from d x.counts)) ∙ texts ∙ ap (λ l. l ++ carried_names_text d y.names) (counts_text_from d y.counts)) in
    let same = one_names d sound names x.names y.names sx.each sy.each hx.names hy.names counts.1 in
    λ i. record { counts = counts.0 i; names = same i }
