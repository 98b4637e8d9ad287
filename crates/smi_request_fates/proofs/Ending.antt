-- The entry that ended a request.
use Rattle.std.proofs.Common.{◌≡◌, ◌∙◌, ◌⊎◌, inl, inr, sym, ap, refl, ℕ, Bool, true, false, List, [], ◌∷◌, ◌++◌, append-nil, append_assoc, Some}
use Rattle.std.specs.Prelude.{◌==◌, ◌&&◌, if◌then◌else◌}
use Rattle.std.proofs.lemmas.Bool.{eqb-true}
use Rattle.sml_domain.specs.Domain.{Domain}
use Rattle.smi_journal_entries.specs.declared.entry.Sender.{Sender}
use Rattle.smi_journal_entries.specs.declared.entry.ActionEnd.TheVariants.{State, Skipped}
use Rattle.smi_journal_entries.specs.declared.entry.Entry.{Entry}
use Rattle.smi_journal_entries.specs.declared.entry.Entry.TheVariants.{Start, Post, Wait, Seen, End, Kill, Insert, Remove, NoMember}
use Rattle.smi_journal_entries.specs.Requests.{same_sender}
use Rattle.smi_journal_entries.specs.Words.{object_of}
use Rattle.smi_request_fates.specs.declared.fate.Stands.{Stands}
use Rattle.smi_request_fates.specs.declared.fate.Fate.{Fate}
use Rattle.smi_request_fates.specs.declared.fate.Fate.TheVariants.{Waits, Open, Ended, Skipped as WasSkipped, Killed}
use Rattle.smi_request_fates.specs.Fates.{stands_of, fate_by_kill, ended_by, fate_by, fate_next, fate_from, fate_of, is_last, stood}
use Rattle.smi_request_fates.specs.Laws.{IsEndOf}

-- what changes a fate that is no last one into a last one says how the object stands
new_ended : (f : Fate) (at : Stands) → is_last f ≡ false → is_last (ended_by (Ended at) f) ≡ true → stood (ended_by (Ended at) f) ≡ Some at
new_ended Waits at l g = absurd (cc g)
new_ended Open at l g = refl
new_ended (Ended was) at l g = absurd (cc l)
new_ended (WasSkipped was) at l g = absurd (cc l)
new_ended (Killed was) at l g = absurd (cc l)

new_skipped : (f : Fate) (at : Stands) → is_last f ≡ false → is_last (ended_by (WasSkipped at) f) ≡ true → stood (ended_by (WasSkipped at) f) ≡ Some at
new_skipped Waits at l g = absurd (cc g)
new_skipped Open at l g = refl
new_skipped (Ended was) at l g = absurd (cc l)
new_skipped (WasSkipped was) at l g = absurd (cc l)
new_skipped (Killed was) at l g = absurd (cc l)

new_killed : (f : Fate) (at : Stands) → is_last f ≡ false → is_last (fate_by_kill at f) ≡ true → stood (fate_by_kill at f) ≡ Some at
new_killed Waits at l g = refl
new_killed Open at l g = refl
new_killed (Ended was) at l g = absurd (cc l)
new_killed (WasSkipped was) at l g = absurd (cc l)
new_killed (Killed was) at l g = absurd (cc l)

new_start : (b : Bool) (f : Fate) (at : Stands) → is_last f ≡ false → is_last (if b then Open else f) ≡ true → stood (if b then Open else f) ≡ Some at
new_start true f at l g = absurd (cc g)
new_start false f at l g = absurd (cc (sym l ∙ g))

new_by : (s : Sender) (n : ℕ) (at : Stands) (f : Fate) (e : Entry) → is_last f ≡ false → is_last (fate_by s n at f e) ≡ true → stood (fate_by s n at f e) ≡ Some at
new_by s n at f (Start x t m a xs) l g = new_start (same_sender s t && (n == m)) f at l g
new_by s n at f (Post x t v a xs) l g = absurd (cc (sym l ∙ g))
new_by s n at f (Wait x) l g = absurd (cc (sym l ∙ g))
new_by s n at f (Seen x rs) l g = absurd (cc (sym l ∙ g))
new_by s n at f (End x (State q)) l g = new_ended f at l g
new_by s n at f (End x Skipped) l g = new_skipped f at l g
new_by s n at f (Kill x c) l g = new_killed f at l g
new_by s n at f (Insert x u set) l g = absurd (cc (sym l ∙ g))
new_by s n at f (Remove x u set) l g = absurd (cc (sym l ∙ g))
new_by s n at f (NoMember x set) l g = absurd (cc (sym l ∙ g))

new_next : (d : Domain) (o : ℕ) (s : Sender) (n : ℕ) (past : List Entry) (f : Fate) (e : Entry) → is_last f ≡ false → is_last (fate_next d o s n past f e) ≡ true
    → (object_of e ≡ o) × (stood (fate_next d o s n past f e) ≡ Some (stands_of d o (past ++ e ∷ [])))
new_next d o s n past f e l g = go (o == object_of e) refl g
  where
    go : (b : Bool) → (o == object_of e) ≡ b → is_last (if b then fate_by s n (stands_of d o (past ++ e ∷ [])) f e else f) ≡ true
        → (object_of e ≡ o) × (stood (if b then fate_by s n (stands_of d o (past ++ e ∷ [])) f e else f) ≡ Some (stands_of d o (past ++ e ∷ [])))
    go true is g = (sym (eqb-true o (object_of e) is), new_by s n (stands_of d o (past ++ e ∷ [])) f e l g)
    go false is g = absurd (cc (sym l ∙ g))

-- a last one that is a last one again is the same
same_ended : (so f : Fate) → is_last f ≡ true → ended_by so f ≡ f
same_ended so Waits l = absurd (cc l)
same_ended so Open l = absurd (cc l)
same_ended so (Ended at) l = refl
same_ended so (WasSkipped at) l = refl
same_ended so (Killed at) l = refl

same_killed : (so : Stands) (f : Fate) → is_last f ≡ true → fate_by_kill so f ≡ f
same_killed so Waits l = absurd (cc l)
same_killed so Open l = absurd (cc l)
same_killed so (Ended at) l = refl
same_killed so (WasSkipped at) l = refl
same_killed so (Killed at) l = refl

same_start : (b : Bool) (f : Fate) → is_last (if b then Open else f) ≡ true → (if b then Open else f) ≡ f
same_start true f g = absurd (cc g)
same_start false f g = refl

same_by : (s : Sender) (n : ℕ) (at : Stands) (f : Fate) (e : Entry) → is_last f ≡ true → is_last (fate_by s n at f e) ≡ true → fate_by s n at f e ≡ f
same_by s n at f (Start x t m a xs) l g = same_start (same_sender s t && (n == m)) f g
same_by s n at f (Post x t v a xs) l g = refl
same_by s n at f (Wait x) l g = refl
same_by s n at f (Seen x rs) l g = refl
same_by s n at f (End x (State q)) l g = same_ended (Ended at) f l
same_by s n at f (End x Skipped) l g = same_ended (WasSkipped at) f l
same_by s n at f (Kill x c) l g = same_killed at f l
same_by s n at f (Insert x u set) l g = refl
same_by s n at f (Remove x u set) l g = refl
same_by s n at f (NoMember x set) l g = refl

same_next : (d : Domain) (o : ℕ) (s : Sender) (n : ℕ) (past : List Entry) (f : Fate) (e : Entry) → is_last f ≡ true → is_last (fate_next d o s n past f e) ≡ true → fate_next d o s n past f e ≡ f
same_next d o s n past f e l g = go (o == object_of e) g
  where
    go : (b : Bool) → is_last (if b then fate_by s n (stands_of d o (past ++ e ∷ [])) f e else f) ≡ true → (if b then fate_by s n (stands_of d o (past ++ e ∷ [])) f e else f) ≡ f
    go true g = same_by s n (stands_of d o (past ++ e ∷ [])) f e l g
    go false g = refl

record EndIn (d : Domain) (o : ℕ) (s : Sender) (n : ℕ) (past : List Entry) (f : Fate) (es : List Entry) : Type 0 where
  front : List Entry
  entry : Entry
  back : List Entry
  journal : es ≡ front ++ entry ∷ back
  own : object_of entry ≡ o
  before : is_last (fate_from d o s n past f front) ≡ false
  after : fate_from d o s n past f (front ++ entry ∷ []) ≡ fate_from d o s n past f es
  at : stood (fate_from d o s n past f es) ≡ Some (stands_of d o ((past ++ front) ++ entry ∷ []))

end_from : (d : Domain) (o : ℕ) (s : Sender) (n : ℕ) (past : List Entry) (f : Fate) (es : List Entry) → is_last (fate_from d o s n past f es) ≡ true
    → ((f ≡ fate_from d o s n past f es) × (is_last f ≡ true)) ⊎ EndIn d o s n past f es
end_from d o s n past f [] l = inl (refl, l)
end_from d o s n past f (e ∷ es) l = later (end_from d o s n (past ++ e ∷ []) (fate_next d o s n past f e) es l)
  where
    here : (b : Bool) → is_last f ≡ b → fate_next d o s n past f e ≡ fate_from d o s n past f (e ∷ es) → is_last (fate_next d o s n past f e) ≡ true
        → ((f ≡ fate_from d o s n past f (e ∷ es)) × (is_last f ≡ true)) ⊎ EndIn d o s n past f (e ∷ es)
    here true was same g = inl (sym (same_next d o s n past f e was g) ∙ same, was)
    here false was same g =
        let new = new_next d o s n past f e was g in
        inr (record {
          front = [];
          entry = e;
          back = es;
          journal = refl;
          own = new.0;
          before = was;
          after = same;
          at = ap stood (sym same) ∙ new.1 ∙ ap (λ p. Some (stands_of d o (p ++ e ∷ []))) (sym (append-nil past));
        })

    later : ((fate_next d o s n past f e ≡ fate_from d o s n past f (e ∷ es)) × (is_last (fate_next d o s n past f e) ≡ true)) ⊎ EndIn d o s n (past ++ e ∷ []) (fate_next d o s n past f e) es
        → ((f ≡ fate_from d o s n past f (e ∷ es)) × (is_last f ≡ true)) ⊎ EndIn d o s n past f (e ∷ es)
    later (inl h) = here (is_last f) refl h.0 h.1
    later (inr h) = inr (record {
      front = e ∷ h.front;
      entry = h.entry;
      back = h.back;
      journal = ap (λ xs. e ∷ xs) h.journal;
      own = h.own;
      before = h.before;
      after = h.after;
      at = h.at ∙ ap (λ p. Some (stands_of d o (p ++ h.entry ∷ []))) (append_assoc past (e ∷ []) h.front);
    })

pub stands_after : (d : Domain) (J : List Entry) (o : ℕ) (s : Sender) (n : ℕ) → is_last (fate_of d o s n J) ≡ true → IsEndOf d J o s n
stands_after d J o s n l = go (end_from d o s n [] Waits J l)
  where
    go : ((Waits ≡ fate_of d o s n J) × (is_last Waits ≡ true)) ⊎ EndIn d o s n [] Waits J → IsEndOf d J o s n
    go (inl h) = absurd (cc h.1)
    go (inr h) = record {
      front = h.front;
      entry = h.entry;
      back = h.back;
      journal = h.journal;
      own = h.own;
      before = h.before;
      after = h.after;
      at = h.at;
    }
