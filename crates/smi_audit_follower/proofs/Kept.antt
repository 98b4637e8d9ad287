-- A follower keeps up with a journal that grows.
use Rattle.std.proofs.Common.{◌≡◌, ◌∙◌, sym, ap, refl, ℕ, List, [], ◌∷◌, ◌++◌, Some, Option, Bool, true, false, if◌then◌else◌}
use Rattle.std.specs.Prelude.{is_some, ◌==◌}
use Rattle.std.proofs.lemmas.Bool.{eq-eqb}
use Rattle.sml_domain.specs.declared.value.Value.{Value}
use Rattle.sml_domain.specs.Domain.{Domain}
use Rattle.sml_domain.specs.Lookups.{program_at}
use Rattle.sml_domain.specs.Truth.{Reading}
use Rattle.smi_journal_entries.specs.declared.entry.Entry.{Entry}
use Rattle.smi_journal_entries.specs.declared.entry.Entry.TheVariants.{Post, Wait, Seen, Insert, Remove, NoMember}
use Rattle.smi_journal_entries.specs.declared.journal.Format.{Format}
use Rattle.smi_journal_entries.specs.Sets.{sets_after}
use Rattle.smi_journal_entries.specs.declared.entry.Verdict.{Verdict}
use Rattle.smi_journal_entries.specs.declared.letter.Letter.{Letter}
use Rattle.smi_journal_entries.specs.Words.{HadNone, Item, Saw, Sent, Turned, dead_of, initial_of, object_of, open_at, opened_by, shown_by, shown_of, start_of, state_by, state_of}
use Rattle.smi_journal_entries.proofs.OneMore.{open_more, shown_more, state_more}
use Rattle.smi_meaning.specs.EntryLaws.{is_own}
use Rattle.smi_meaning.specs.Params.{ParamsAfter, ParamsNext}
use Rattle.smi_meaning.proofs.Leaving.{others_change_nothing}
use Rattle.smi_meaning.proofs.Parameters.{params_more}
use Rattle.smi_audit_follower.specs.Following.{FollowerView, followed, with_item}
use Rattle.smi_audit_follower.specs.Laws.{IsFollowed}

-- ---- one more entry of the object itself

own_if : {X : Type 0} (o : ℕ) (x y : X) → (if o == o then x else y) ≡ x
own_if o x y = ap (λ b. if b then x else y) (eq-eqb o o refl)

-- what is left of a follower by an entry of its object, which shows these items in all and changes nothing else
own_followed : (format : Format) (d : Domain) (J : List Entry) (f : FollowerView) (e : Entry) (items : List Item) → IsFollowed format d J (object_of e) f
    → ((s : ℕ) → state_by (dead_of d (object_of e)) s e ≡ s) → ((l : Option Letter) → opened_by l e ≡ l) → ParamsNext format d (object_of e) J e f.own f.own
    → items ≡ shown_by (sets_after d J) (shown_of d (object_of e) J) e → IsFollowed format d (J ++ e ∷ []) (object_of e) (record f { shown = items })
own_followed format d J f e items h state opened params shown =
    let o = object_of e in
    record {
      format_is = h.format_is;
      domain = h.domain;
      object = h.object;
      state = h.state ∙ sym (state_more o (initial_of d o) (dead_of d o) J e ∙ own_if o (state_by (dead_of d o) (state_of d o J) e) (state_of d o J) ∙ state (state_of d o J));
      params = params_more format d o J e f.own f.own h.params params;
      opened = open_more o J e ∙ own_if o (opened_by (open_at o J) e) (open_at o J) ∙ opened (open_at o J) ∙ h.opened;
      declared = h.declared;
      shown = shown ∙ sym (shown_more d o J e ∙ own_if o (shown_by (sets_after d J) (shown_of d o J) e) (shown_of d o J));
    }

pub start_followed : (format : Format) (d : Domain) (J : List Entry) (o : ℕ) (l : Letter) (own : List Value) → ParamsAfter format d o J own
    → is_some (program_at d o (state_of d o J) l.action) ≡ true → IsFollowed format d (J ++ start_of o l ∷ []) o (followed format d o (state_of d o J) l own)
start_followed format d J o l own params declared =
    let e = start_of o l in
    record {
      format_is = refl;
      domain = refl;
      object = refl;
      state = sym (state_more o (initial_of d o) (dead_of d o) J e ∙ own_if o (state_of d o J) (state_of d o J));
      params = params_more format d o J e own own params refl;
      opened = open_more o J e ∙ own_if o (Some l) (open_at o J);
      declared = declared;
      shown = sym (shown_more d o J e ∙ own_if o [] (shown_of d o J));
    }

pub post_followed : (format : Format) (d : Domain) (J : List Entry) (o : ℕ) (f : FollowerView) (t a : ℕ) (v : Verdict) (args : List Value) → IsFollowed format d J o f
    → IsFollowed format d (J ++ Post o t v a args ∷ []) o (with_item f (Sent (sets_after d J) t v a args))
post_followed format d J o f t a v args h =
    own_followed format d J f (Post o t v a args) (f.shown ++ Sent (sets_after d J) t v a args ∷ []) h (λ _. refl) (λ _. refl) refl (ap (λ l. l ++ Sent (sets_after d J) t v a args ∷ []) h.shown)

pub seen_followed : (format : Format) (d : Domain) (J : List Entry) (o : ℕ) (f : FollowerView) (readings : List Reading) → IsFollowed format d J o f
    → IsFollowed format d (J ++ Seen o readings ∷ []) o (with_item f (Saw (record { sets = sets_after d J; readings = readings })))
seen_followed format d J o f readings h =
    own_followed format d J f (Seen o readings) (f.shown ++ Saw (record { sets = sets_after d J; readings = readings }) ∷ []) h (λ _. refl) (λ _. refl) refl (ap (λ l. l ++ Saw (record { sets = sets_after d J; readings = readings }) ∷ []) h.shown)

pub none_followed : (format : Format) (d : Domain) (J : List Entry) (o : ℕ) (f : FollowerView) (set : ℕ) → IsFollowed format d J o f
    → IsFollowed format d (J ++ NoMember o set ∷ []) o (with_item f (HadNone (sets_after d J) set))
none_followed format d J o f set h =
    own_followed format d J f (NoMember o set) (f.shown ++ HadNone (sets_after d J) set ∷ []) h (λ _. refl) (λ _. refl) refl (ap (λ l. l ++ HadNone (sets_after d J) set ∷ []) h.shown)

pub insert_followed : (format : Format) (d : Domain) (J : List Entry) (o : ℕ) (f : FollowerView) (member set : ℕ) → IsFollowed format d J o f
    → IsFollowed format d (J ++ Insert o member set ∷ []) o (with_item f (Turned true member set))
insert_followed format d J o f member set h =
    own_followed format d J f (Insert o member set) (f.shown ++ Turned true member set ∷ []) h (λ _. refl) (λ _. refl) refl (ap (λ l. l ++ Turned true member set ∷ []) h.shown)

pub remove_followed : (format : Format) (d : Domain) (J : List Entry) (o : ℕ) (f : FollowerView) (member set : ℕ) → IsFollowed format d J o f
    → IsFollowed format d (J ++ Remove o member set ∷ []) o (with_item f (Turned false member set))
remove_followed format d J o f member set h =
    own_followed format d J f (Remove o member set) (f.shown ++ Turned false member set ∷ []) h (λ _. refl) (λ _. refl) refl (ap (λ l. l ++ Turned false member set ∷ []) h.shown)

pub wait_followed : (format : Format) (d : Domain) (J : List Entry) (o : ℕ) (f : FollowerView) → IsFollowed format d J o f → IsFollowed format d (J ++ Wait o ∷ []) o f
wait_followed format d J o f h = own_followed format d J f (Wait o) f.shown h (λ _. refl) (λ _. refl) refl h.shown

-- ---- entries of others

others_if : {X : Type 0} (b : Bool) (x y : X) → b ≡ false → (if b then x else y) ≡ y
others_if b x y e = ap (λ b. if b then x else y) e

pub others_followed : (format : Format) (d : Domain) (J : List Entry) (o : ℕ) (f : FollowerView) (e : Entry) → is_own o e ≡ false → IsFollowed format d J o f → IsFollowed format d (J ++ e ∷ []) o f
others_followed format d J o f e other h =
    let stays = others_change_nothing format d J o e f.own other h.params in
    record {
      format_is = h.format_is;
      domain = h.domain;
      object = h.object;
      state = h.state ∙ sym stays.0;
      params = stays.1;
      opened = open_more o J e ∙ others_if (o == object_of e) (opened_by (open_at o J) e) (open_at o J) other ∙ h.opened;
      declared = h.declared;
      shown = h.shown ∙ sym (shown_more d o J e ∙ others_if (o == object_of e) (shown_by (sets_after d J) (shown_of d o J) e) (shown_of d o J) other);
    }
