-- The rows of the object's class are all its states.
use Rattle.std.proofs.Common.{◌≡◌, ◌<◌, ◌∙◌, ℕ, Bool, true, false, List, Option, Some, None, is_some, length, slice_get, get_or, option_map, refl, sym, ap, subst}
use Rattle.std.specs.Option.{option_and_then, option_map_or}
use Rattle.std.proofs.lemmas.Option.{slice_get_within, get_or_from_slice_get, slice_get_read}
use Rattle.sml_domain.specs.Domain.{Domain, Class, State}
use Rattle.sml_domain.specs.Lookups.{class_at, class_number, numbers_state, has_state}
use Rattle.sml_domain.proofs.Finds.{none_found}
use Rattle.sml_domain.proofs.Ranges.{same_number}
use Rattle.smi_outset_text.specs.Reading.{NoStateIsRead, NoStateOf, ReadsState, StateIsFound, StateIsRead}

-- the class of an object is the row that was read
class_read : (d : Domain) (o k : ℕ) (c : Class) → Some k ≡ option_map class_number (slice_get d.objects o) → k < length d.classes
    → c ≡ get_or d.classes k c → class_at d o ≡ Some c
class_read d o k c number lt is = ap (option_and_then (slice_get d.classes)) (sym number) ∙ slice_get_read d.classes (length d.classes) k c refl lt is

-- all rows were looked at
none_read : (d : Domain) (o : ℕ) (text : List ℕ) (c : Class) → class_at d o ≡ Some c → NoStateOf d o text c.states (length c.states) → NoStateIsRead d o text
none_read d o text c at none s more h =
    let has : has_state s c ≡ true = sym (ap (λ k. option_map_or (has_state s) k false) at) ∙ h.0.is in
    absurd (cc (sym has ∙ ap is_some (none_found (numbers_state s) c.states differ)))
  where
    differ : (i : ℕ) (x : State) → slice_get c.states i ≡ Some x → numbers_state s x ≡ false
    differ i x e = one (numbers_state s x) refl
      where
        one : (b : Bool) → numbers_state s x ≡ b → b ≡ false
        one false t = refl
        one true t =
            let row : get_or c.states i x ≡ x = get_or_from_slice_get c.states i x x e in
            let same : s ≡ (get_or c.states i x).number = sym (same_number x.number s t) ∙ ap (λ (r : State). r.number) (sym row) in
            absurd (none i x more (slice_get_within c.states i x e) (subst (λ k. StateIsRead d o text k more) same h))

-- so what was found among the rows of an object's class was read
pub found_reads : (d : Domain) (o k : ℕ) (text : List ℕ) (c : Class) (r : Option (ℕ × List ℕ)) → StateIsFound d o text c.states r
    → Some k ≡ option_map class_number (slice_get d.objects o) → k < length d.classes → c ≡ get_or d.classes k c → ReadsState d o text r
found_reads d o k text c None h number lt is = none_read d o text c (class_read d o k c number lt is) h
found_reads d o k text c (Some x) h number lt is = h
