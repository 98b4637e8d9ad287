-- What was told is what its line wrote, where the lines before it had led.
use Rattle.std.proofs.Common.{◌≡◌, ◌∙◌, sym, ap, refl, subst, ◌⊎◌, inl, inr, ℕ, Bool, true, false, List, [], ◌∷◌, ◌++◌, append_assoc, Option, Some, None}
use Rattle.sml_text.specs.Lines.{Outputs}
use Rattle.smi_live_once.specs.Forms.{IsMarked}
use Rattle.smi_live_once.specs.Making.{IsAnsweredBy, Keeper, KeeperWrites}
use Rattle.smi_live_once.specs.Tables.{NotesTold, OnceTold, same_bytes, told_to, with_last_told}
use Rattle.smi_live_once.proofs.Growing.{same_is, told_put, told_other}

module _ {C : Type 0} (writes : C → List ℕ → List ℕ → C → Type 0) where
  pub answered_since : (k : Keeper C) (lines : List (List ℕ)) (out : List ℕ) (k2 : Keeper C) → Outputs (KeeperWrites writes) k lines out k2 → (name : List ℕ) (t : OnceTold) → told_to k2.told name ≡ Some t
      → (told_to k.told name ≡ Some t) ⊎ IsAnsweredBy writes k lines out t
  answered_since k [] out k2 h name t e = inl (subst (λ (y : Keeper C). told_to y.told name ≡ Some t) h.1 e)
  answered_since k (l ∷ ls) out k2 h name t e = of (answered_since h.0 ls h.2 k2 h.4 name t e)
    where
      later : IsAnsweredBy writes h.0 ls h.2 t → IsAnsweredBy writes k (l ∷ ls) out t
      later b = record {
        before = l ∷ b.before;
        line = b.line;
        behind = b.behind;
        split = ap (λ x. l ∷ x) b.split;
        marked = b.marked;
        start = h.1 ++ b.start;
        end = b.end;
        mid = b.mid;
        after = b.after;
        first = (h.0, h.1, b.start, h.3, b.first, refl);
        wrote = b.wrote;
        parts = h.5 ∙ ap (λ x. h.1 ++ x) b.parts ∙ sym (append_assoc h.1 b.start (t.answer ++ b.end));
      }

      now : (x : OnceTold) → IsMarked l x.name x.number → x.answer ≡ h.1 → x ≡ t → IsAnsweredBy writes k (l ∷ ls) out t
      now x m a s =
          let same : h.1 ≡ t.answer = sym a ∙ ap (λ (y : OnceTold). y.answer) s in
          record {
            before = [];
            line = l;
            behind = ls;
            split = refl;
            marked = subst (λ (y : OnceTold). IsMarked l y.name y.number) s m;
            start = [];
            end = h.2;
            mid = k;
            after = h.0;
            first = (refl, refl);
            wrote = subst (λ y. KeeperWrites writes k l y h.0) same h.3;
            parts = h.5 ∙ ap (λ y. y ++ h.2) same;
          }

      put : (x : OnceTold) (c : Bool) → same_bytes x.name name ≡ c → IsMarked l x.name x.number → x.answer ≡ h.1 → h.0.told ≡ with_last_told k.told x → told_to h.0.told name ≡ Some t → (told_to k.told name ≡ Some t) ⊎ IsAnsweredBy writes k (l ∷ ls) out t
      put x true p m a s f =
          let g : ◌≡◌ {A = Option OnceTold} (Some x) (Some t) = sym (told_put k.told x name (same_is x.name name p)) ∙ sym (ap (λ y. told_to y name) s) ∙ f in
          inr (now x m a (cc g))
      put x false p m a s f = inl (sym (told_other k.told x name p) ∙ sym (ap (λ y. told_to y name) s) ∙ f)

      notes : KeeperWrites writes k l h.1 h.0 → NotesTold k.told l h.1 h.0.told
      notes w = w.1

      noted : NotesTold k.told l h.1 h.0.told → told_to h.0.told name ≡ Some t → (told_to k.told name ≡ Some t) ⊎ IsAnsweredBy writes k (l ∷ ls) out t
      noted (inl n) f = put (record { name = n.0; number = n.1; answer = h.1 }) (same_bytes n.0 name) refl n.2 refl n.4 f
      noted (inr n) f = inl (subst (λ y. told_to y name ≡ Some t) n.1 f)

      of : (told_to h.0.told name ≡ Some t) ⊎ IsAnsweredBy writes h.0 ls h.2 t → (told_to k.told name ≡ Some t) ⊎ IsAnsweredBy writes k (l ∷ ls) out t
      of (inl f) = noted (notes h.3) f
      of (inr b) = inr (later b)

  -- from where nothing was told
  pub answered : (c : C) (lines : List (List ℕ)) (out : List ℕ) (k2 : Keeper C) → Outputs (KeeperWrites writes) (record { core = c; told = [] }) lines out k2 → (name : List ℕ) (t : OnceTold) → told_to k2.told name ≡ Some t
      → IsAnsweredBy writes (record { core = c; told = [] }) lines out t
  answered c lines out k2 h name t e = of (answered_since (record { core = c; told = [] }) lines out k2 h name t e)
    where
      of : (◌≡◌ {A = Option OnceTold} None (Some t)) ⊎ IsAnsweredBy writes (record { core = c; told = [] }) lines out t → IsAnsweredBy writes (record { core = c; told = [] }) lines out t
      of (inl f) = absurd (cc f)
      of (inr b) = b
