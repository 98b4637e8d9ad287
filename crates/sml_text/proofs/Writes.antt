-- What several writes append, one after another.
use Rattle.std.proofs.Common.{◌≡◌, ◌∙◌, sym, ap, ℕ, ◌+◌, ◌≤◌, List, [], ◌++◌, length, take, drop, Option, None, Some, subst, refl, Bool, true, false, append-nil, append_assoc, take-append-drop}
use Rattle.std.proofs.KnownBytes.{Appends-trans, Appends-nil}
use Rattle.std.proofs.lemmas.List.{take_all}
use Rattle.std.proofs.Math.Seq.{take-append_seam, take-add}
use Rattle.std.specs.Io.KnownBytes.{Appends, Keeps}
use Rattle.sml_text.specs.Written.{Told, Wrote, WroteFront}

pub keeps_none : (old new : Option (List ℕ)) → Keeps old new → Appends old new []
keeps_none None new h = tt
keeps_none (Some xs) None h = absurd h
keeps_none (Some xs) (Some ys) h = h ∙ sym (append-nil xs)

pub wrote_none : (old : Option (List ℕ)) (bytes : List ℕ) → Wrote old old (take 0 bytes)
wrote_none old bytes = record { appends = Appends-nil old }

-- the next n bytes
take_next : (i n : ℕ) (xs : List ℕ) → take i xs ++ take n (drop i xs) ≡ take (i + n) xs
take_next i n xs = sym (take-add i n xs)

pub wrote_next : (old now new : Option (List ℕ)) (bytes rest : List ℕ) (at n : ℕ) → Wrote old now (take at bytes) → rest ≡ drop at bytes → Appends now new (take n rest) → Wrote old new (take (at + n) bytes)
wrote_next old now new bytes rest at n h e more = record {
  appends = subst (Appends old new) (ap (λ r. take at bytes ++ take n r) e ∙ take_next at n bytes) (Appends-trans old now new (take at bytes) (take n rest) h.appends more);
}

pub wrote_all : (old now : Option (List ℕ)) (bytes : List ℕ) (at : ℕ) → Wrote old now (take at bytes) → length bytes ≤ at → Wrote old now bytes
wrote_all old now bytes at h whole = record { appends = subst (Appends old now) (take_all at bytes whole) h.appends }

pub wrote_front : (old now new : Option (List ℕ)) (bytes : List ℕ) (at : ℕ) → Wrote old now (take at bytes) → Appends now new [] → WroteFront old new bytes
wrote_front old now new bytes at h none = record {
  count = at;
  appends = subst (Appends old new) (append-nil (take at bytes)) (Appends-trans old now new (take at bytes) [] h.appends none);
}

pub told_both : (old : Option (List ℕ)) (f : Bool) (mid : Option (List ℕ)) (g : Bool) (new : Option (List ℕ)) (h : Bool) (bs cs : List ℕ) →
    Told old f mid g bs → Told mid g new h cs → Told old f new h (bs ++ cs)
told_both old f mid false new h bs cs x y =
    let all : bs ≡ x.front = x.split ∙ ap (λ l. x.front ++ l) (x.whole refl) ∙ append-nil x.front in
    record {
      front = bs ++ y.front;
      rest = y.rest;
      split = ap (λ l. bs ++ l) y.split ∙ sym (append_assoc bs y.front y.rest);
      appends = Appends-trans old mid new bs y.front (subst (Appends old mid) (sym all) x.appends) y.appends;
      whole = y.whole;
      stays = λ e. let no = (x.stays e).0 in cc;
    }
told_both old f mid true new h bs cs x y =
    let none = (y.stays refl).1 in
    let failing = (y.stays refl).0 in
    record {
      front = x.front;
      rest = x.rest ++ cs;
      split = ap (λ l. l ++ cs) x.split ∙ append_assoc x.front x.rest cs;
      appends = subst (Appends old new) (append-nil x.front) (Appends-trans old mid new x.front [] x.appends (subst (Appends mid new) none y.appends));
      whole = λ e. cc;
      stays = λ e. (failing, (x.stays e).1);
    }

-- the same bytes, written otherwise
pub told_as : (old : Option (List ℕ)) (f : Bool) (new : Option (List ℕ)) (h : Bool) (bs cs : List ℕ) → Told old f new h bs → bs ≡ cs → Told old f new h cs
told_as old f new h bs cs x e = subst (Told old f new h) e x

pub told_front : (old new : Option (List ℕ)) (bs : List ℕ) → WroteFront old new bs → Told old false new true bs
told_front old new bs h = record {
  front = take h.count bs;
  rest = drop h.count bs;
  split = sym (take-append-drop h.count bs);
  appends = h.appends;
  whole = λ e. cc;
  stays = λ e. cc;
}

pub told_none : (old : Option (List ℕ)) (bs : List ℕ) → Told old true old true bs
told_none old bs = record { front = []; rest = bs; split = refl; appends = Appends-nil old; whole = λ e. cc; stays = λ e. (refl, refl) }

pub wrote_told : (old new : Option (List ℕ)) (bs : List ℕ) (f : Bool) → Told old f new false bs → Wrote old new bs
wrote_told old new bs f t = record { appends = subst (Appends old new) (sym (t.split ∙ ap (λ l. t.front ++ l) (t.whole refl) ∙ append-nil t.front)) t.appends }

pub front_told : (old new : Option (List ℕ)) (bs : List ℕ) (f g : Bool) → Told old f new g bs → WroteFront old new bs
front_told old new bs f g t = record { count = length t.front; appends = subst (Appends old new) (sym (ap (take (length t.front)) t.split ∙ take-append_seam t.front t.rest)) t.appends }
