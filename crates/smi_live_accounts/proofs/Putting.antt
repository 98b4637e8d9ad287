-- What a manager keeps, at first and as requests are made once.
use Rattle.std.proofs.Common.{◌≡◌, ◌∙◌, sym, ap, refl, subst, arith, ℕ, zero, suc, ◌<◌, ◌≤◌, List, [], ◌∷◌, ◌++◌, inl, inr, length, map}
use Rattle.std.specs.Prelude.{slice_get, slice_set}
use Rattle.std.proofs.lemmas.List.{length-map, map-append}
use Rattle.std.proofs.lemmas.List.Elements.{All-nil}
use Rattle.sml_domain.specs.Domain.{Domain}
use Rattle.smi_journal_entries.specs.declared.entry.Entry.{Entry}
use Rattle.smi_live_once.specs.Tables.{IsPutAt, OnceTold}
use Rattle.smi_request_fates.specs.Kept.{FatesView, IsCame, IsOfCounted, FatesTell, WatchedView, watched_request}
use Rattle.smi_request_fates.proofs.Keeping.{held_tell, replaced_tell, watched_tell}
use Rattle.smi_live_accounts.specs.Accounts.{AccountsTell, AccountsView, ArePaired, IsAnswerTo}
use Rattle.smi_live_accounts.proofs.Pairing.{paired_instead, paired_more}

pub accounts_begin : (d : Domain) (f : FatesView) (told : List OnceTold) → FatesTell d [] f → length f.counts ≡ length d.objects → f.watched ≡ [] → told ≡ [] → AccountsTell d [] (record { told = told; fates = f; starts = 0 })
accounts_begin d f told tells count none empty = record {
  tells = tells;
  count = count;
  known = All-nil (IsOfCounted (length d.objects));
  paired = record {
    count = ap (λ ws. length (map watched_request ws)) none ∙ ap length (sym empty);
    each = λ p t a e g. absurd (cc (sym e ∙ ap (λ ts. slice_get ts p) empty));
  };
  all = refl;
}

map_set : (ws : List WatchedView) (p : ℕ) (w : WatchedView) → map watched_request (slice_set ws p w) ≡ slice_set (map watched_request ws) p (watched_request w)
map_set [] p w = refl
map_set (x ∷ ws) zero w = refl
map_set (x ∷ ws) (suc p) w = ap (λ l. watched_request x ∷ l) (map_set ws p w)

same_count : (d : Domain) (told : List OnceTold) (ws : List WatchedView) → ArePaired d told (map watched_request ws) → length ws ≡ length told
same_count d told ws h = sym (length-map ws watched_request) ∙ h.count

past : (p l n m : ℕ) → p < n → n ≡ m → m ≡ l → p ≡ l → ⊥
past p l n m a e f g = omega (arith, a, e, f, g)

short : (p l n m : ℕ) → n ≤ p → n ≡ m → m ≡ l → p < l → ⊥
short p l n m a e f b = omega (arith, a, b, e, f)

module _ (d : Domain) (J : List Entry) (a : AccountsView) (f : FatesView) (held : f ≡ record a.fates { room = f.room }) (x : OnceTold) (w : WatchedView) (p n : ℕ) (size : n ≡ length f.watched) (told2 : List OnceTold)
    (h : AccountsTell d J a) (came : IsCame d J w) (answers : IsAnswerTo d (watched_request w) x.answer) where
  watched_count : length f.watched ≡ length a.told
  watched_count = ap (λ (g : FatesView). length g.watched) held ∙ same_count d a.told a.fates.watched h.paired

  is_held : FatesTell d J (record a.fates { room = f.room })
  is_held = held_tell d J a.fates f.room h.tells

  -- the request of a name that is known is watched in the place of its last one
  pub put_instead : (g : FatesView) → IsPutAt a.told x p told2 → p < n → g ≡ record f { watched = slice_set f.watched p w } → AccountsTell d J (record { told = told2; fates = g; starts = a.starts })
  put_instead g (inr at) inside new = absurd (past p (length a.told) n (length f.watched) inside size watched_count at.0)
  put_instead g (inl at) inside new =
      let is : g ≡ record { counts = a.fates.counts; watched = slice_set a.fates.watched p w; room = f.room } = new ∙ ap (λ (k : FatesView). record { counts = k.counts; watched = slice_set k.watched p w; room = k.room }) held in
      let all : AccountsTell d J (record { told = told2; fates = record { counts = a.fates.counts; watched = slice_set a.fates.watched p w; room = f.room }; starts = a.starts }) = record {
        tells = replaced_tell d J (record a.fates { room = f.room }) w p is_held came;
        count = h.count;
        known = h.known;
        paired = subst (λ ts. ArePaired d ts (map watched_request (slice_set a.fates.watched p w))) (sym at.1)
            (subst (ArePaired d (slice_set a.told p x)) (sym (map_set a.fates.watched p w)) (paired_instead d a.told (map watched_request a.fates.watched) p x (watched_request w) at.0 h.paired answers));
        all = h.all;
      } in
      subst (λ k. AccountsTell d J (record { told = told2; fates = k; starts = a.starts })) (sym is) all

  -- that of a new name is watched after all others
  pub put_more : (g : FatesView) (room : ℕ) → IsPutAt a.told x p told2 → n ≤ p → g ≡ record f { watched = f.watched ++ w ∷ []; room = room } → AccountsTell d J (record { told = told2; fates = g; starts = a.starts })
  put_more g room (inl at) outside new = absurd (short p (length a.told) n (length f.watched) outside size watched_count at.0)
  put_more g room (inr at) outside new =
      let is : g ≡ record { counts = a.fates.counts; watched = a.fates.watched ++ w ∷ []; room = room } = new ∙ ap (λ (k : FatesView). record { counts = k.counts; watched = k.watched ++ w ∷ []; room = room }) held in
      let all : AccountsTell d J (record { told = told2; fates = record { counts = a.fates.counts; watched = a.fates.watched ++ w ∷ []; room = room }; starts = a.starts }) = record {
        tells = watched_tell d J (record a.fates { room = f.room }) w room is_held came;
        count = h.count;
        known = h.known;
        paired = subst (λ ts. ArePaired d ts (map watched_request (a.fates.watched ++ w ∷ []))) (sym at.1)
            (subst (ArePaired d (a.told ++ x ∷ [])) (sym (map-append watched_request a.fates.watched (w ∷ []))) (paired_more d a.told (map watched_request a.fates.watched) x (watched_request w) h.paired answers));
        all = h.all;
      } in
      subst (λ k. AccountsTell d J (record { told = told2; fates = k; starts = a.starts })) (sym is) all
