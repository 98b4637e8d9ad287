-- What was told whole.
use Rattle.std.proofs.Common.{◌≡◌, ◌∙◌, sym, ap, ℕ, List, ◌++◌, Option, Bool, false, subst, append-nil}
use Rattle.std.specs.Io.KnownBytes.{Appends}
use Rattle.sml_text.specs.Written.{Told}

-- it was written
pub told_whole : {old new : Option (List ℕ)} {f h : Bool} {bs : List ℕ} → Told old f new h bs → h ≡ false → Appends old new bs
told_whole {old} {new} {f} {h} {bs} t e = subst (Appends old new) (sym (t.split ∙ ap (λ l. t.front ++ l) (t.whole e) ∙ append-nil t.front)) t.appends
