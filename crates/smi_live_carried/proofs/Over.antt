-- What is read of counts and requests, by all logs.
use Rattle.std.proofs.Common.{◌≡◌, ◌∙◌, sym, ap, refl, ℕ, zero, suc, List, [], ◌∷◌, Some, None, map}
use Rattle.std.specs.Prelude.{slice_get}
use Rattle.smi_carried.specs.declared.carried.CarriedCounts.{CarriedCounts}
use Rattle.smi_request_fates.specs.declared.counts.Counts.{Counts}
use Rattle.smi_request_fates.specs.declared.fate.Fate.{Fate}
use Rattle.smi_request_fates.specs.declared.fate.Fate.TheVariants.{Waits, Open, Ended, Skipped, Killed}
use Rattle.smi_request_fates.specs.declared.fate.Came.{Came}
use Rattle.smi_request_fates.specs.declared.fate.Came.TheVariants.{Accepted, Refused, Past}
use Rattle.smi_request_fates.specs.Kept.{WatchedView}
use Rattle.smi_live_carried.specs.OverLogs.{FirstLogsAreAlone, all_counts_over, came_over, counts_over, fate_over, watched_over}

pub get_over : (base : List CarriedCounts) (cs : List Counts) (o : ℕ) (c : Counts) → slice_get cs o ≡ Some c
    → Some (counts_over (slice_get base o) c) ≡ slice_get (all_counts_over base cs) o
get_over base [] o c e = absurd (cc e)
get_over [] (x ∷ cs) zero c e = let s : x ≡ c = cc e in ap (λ y. Some (counts_over None y)) (sym s)
get_over [] (x ∷ cs) (suc o) c e = get_over [] cs o c e
get_over (b ∷ bs) (x ∷ cs) zero c e = let s : x ≡ c = cc e in ap (λ y. Some (counts_over (Some b) y)) (sym s)
get_over (b ∷ bs) (x ∷ cs) (suc o) c e = get_over bs cs o c e

pub get_none : (base : List CarriedCounts) (cs : List Counts) (o : ℕ) → slice_get cs o ≡ None → None ≡ slice_get (all_counts_over base cs) o
get_none base [] o e = refl
get_none [] (x ∷ cs) zero e = absurd (cc e)
get_none [] (x ∷ cs) (suc o) e = get_none [] cs o e
get_none (b ∷ bs) (x ∷ cs) zero e = absurd (cc e)
get_none (b ∷ bs) (x ∷ cs) (suc o) e = get_none bs cs o e

pub get_watched : (base : List CarriedCounts) (ws : List WatchedView) (p : ℕ) (w : WatchedView) → slice_get ws p ≡ Some w
    → Some (watched_over base w) ≡ slice_get (map (watched_over base) ws) p
get_watched base [] p w e = absurd (cc e)
get_watched base (x ∷ ws) zero w e = let s : x ≡ w = cc e in ap (λ y. Some (watched_over base y)) (sym s)
get_watched base (x ∷ ws) (suc p) w e = get_watched base ws p w e

pub get_unwatched : (base : List CarriedCounts) (ws : List WatchedView) (p : ℕ) → slice_get ws p ≡ None → None ≡ slice_get (map (watched_over base) ws) p
get_unwatched base [] p e = refl
get_unwatched base (x ∷ ws) zero e = absurd (cc e)
get_unwatched base (x ∷ ws) (suc p) e = get_unwatched base ws p e

-- ---- a first log

no_counts : (cs : List Counts) → all_counts_over [] cs ≡ cs
no_counts [] = refl
no_counts (c ∷ cs) = ap (λ l. c ∷ l) (no_counts cs)

same_fate : (f : Fate) → fate_over None f ≡ f
same_fate Waits = refl
same_fate Open = refl
same_fate (Ended at) = refl
same_fate (Skipped at) = refl
same_fate (Killed at) = refl

same_came : (k : Came) → came_over None k ≡ k
same_came (Accepted f) = ap Accepted (same_fate f)
same_came (Refused None) = refl
same_came (Refused (Some at)) = refl
same_came (Past at) = refl

same_watched : (ws : List WatchedView) → map (watched_over []) ws ≡ ws
same_watched [] = refl
same_watched (w ∷ ws) =
    ap (λ k. (record w { came = k }) ∷ map (watched_over []) ws) (same_came w.came) ∙ ap (λ l. w ∷ l) (same_watched ws)

pub first_alone : FirstLogsAreAlone
first_alone a =
    ap (λ cs. record a { fates = record a.fates { counts = cs; watched = map (watched_over []) a.fates.watched } }) (no_counts a.fates.counts)
    ∙ ap (λ ws. record a { fates = record a.fates { watched = ws } }) (same_watched a.fates.watched)
