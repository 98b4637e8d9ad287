-- Mailboxes as they are closed.
use Rattle.std.proofs.Common.{◌≡◌, ◌<◌, ◌+◌, ◌++◌, ℕ, zero, suc, List, [], ◌∷◌, length, map, get_or, Some, refl, sym, ap, ◌∙◌, subst, arith, append_assoc, ⊎_elim}
use Rattle.std.specs.Prelude.{slice_get, slice_index_or}
use Rattle.std.specs.List.{All}
use Rattle.std.proofs.lemmas.List.{get_or_past, length-map, map-append}
use Rattle.std.proofs.lemmas.Option.{slice_get_within, slice_get-get_or, get_or_from_slice_get}
use Rattle.atomic_table.specs.Seated.{TableId}
use Rattle.smi_journal_entries.specs.declared.entry.Sender.{Sender}
use Rattle.smi_journal_entries.specs.declared.entry.Sender.TheVariants.{Operator, Object}
use Rattle.smi_journal_entries.specs.declared.letter.Letter.{Letter}
use Rattle.sml_domain.specs.Domain.{Domain}
use Rattle.smi_mail.specs.Letters.{letters_from}
use Rattle.smi_mail.specs.Rule.{IsWhole, sent_of}
use Rattle.smi_mail.specs.Sides.{BoardSide, SessionSide}
use Rattle.smi_mail.specs.Rows.{joined_side, MayJoin}
use Rattle.smi_mail.specs.Mails.{AreBoards, AreSessions, IsRunning, Letters, letters_of, letters_at, OperatorSide, operator_side, session_sent}
use Rattle.smi_mail.specs.Drains.{Final, final_of, final_at, final_sent, with_known, IsDrainOf, IsFinal}

-- an element that is there
pub there : {A : Type 0} (xs : List A) (o : ℕ) → o < length xs → (x : A) × (slice_get xs o ≡ Some x)
there [] o lt = absurd (omega arith)
there (x ∷ xs) zero lt = (x, refl)
there (x ∷ xs) (suc o) lt = there xs o (omega arith)

map_at : {A B : Type 0} (f : A → B) (xs : List A) (o : ℕ) (x : A) → slice_get xs o ≡ Some x → slice_get (map f xs) o ≡ Some (f x)
map_at f [] o x e = absurd cc
map_at f (y ∷ ys) zero x e = cc
map_at f (y ∷ ys) (suc o) x e = map_at f ys o x e

all_at : {A : Type 0} (P : A → Type 0) (xs : List A) (o : ℕ) (x : A) → All P xs → slice_get xs o ≡ Some x → P x
all_at P xs o x all at = subst P (get_or_from_slice_get xs o x x at) (all o x (slice_get_within xs o x at))

all_from : {A : Type 0} (P : A → Type 0) (xs : List A) → ((o : ℕ) (x : A) → slice_get xs o ≡ Some x → P x) → All P xs
all_from P xs h k d lt = h k (get_or xs k d) (slice_get-get_or xs k d lt)

module _ (d : Domain) (n s : ℕ) (mailboxes : List TableId) (old : List BoardSide) (h : AreBoards d n s mailboxes old) where
  pub running_at : (o : ℕ) (b : BoardSide) → slice_get old o ≡ Some b → IsRunning n s b.seen
  running_at o b at = all_at (λ (e : BoardSide). IsRunning n s e.seen) old o b h.each at

  module _ (now : List BoardSide) (before : List OperatorSide) (long : length now ≡ length old) (same : (o : ℕ) (b : BoardSide) → slice_get old o ≡ Some b → slice_get now o ≡ Some (with_known before o b)) (row : List SessionSide) (k : ℕ) (r : AreSessions d n k mailboxes row) (place : k ≡ length before + 1) where
    pub row_joins : (o : ℕ) (b : BoardSide) (e : SessionSide) → slice_get now o ≡ Some b → slice_get row o ≡ Some e → MayJoin b e
    row_joins o b e at at' =
        let lt = slice_get_within now o b at in
        let was = there old o (omega arith) in
        let is : b ≡ with_known before o was.0 = cc (at, same o was.0 was.1) in
        let run = running_at o was.0 was.1 in
        let name : e.mailbox ≡ was.0.mailbox = cc (map_at (λ (y : SessionSide). y.mailbox) row o e at', map_at (λ (y : BoardSide). y.mailbox) old o was.0 was.1, r.named, h.named) in
        let mine = all_at (λ (y : SessionSide). (y.seen.capacity ≡ n) × (y.seen.session ≡ k)) row o e r.each at' in (
          name ∙ sym (ap (λ (y : BoardSide). y.mailbox) is),
          mine.1 ∙ place ∙ sym (ap (λ (y : BoardSide). length y.seen.known) is ∙ ap (λ l. length (l ++ map (λ (y : OperatorSide). session_sent y o) before)) run.known ∙ omega (arith, length-map before (λ (y : OperatorSide). session_sent y o))),
        )

    pub row_joined : (after : List BoardSide) (end : OperatorSide) → operator_side k row ≡ end → ((o : ℕ) (b : BoardSide) (e : SessionSide) → slice_get now o ≡ Some b → slice_get row o ≡ Some e → slice_get after o ≡ Some (joined_side b e))
        → (o : ℕ) (b : BoardSide) → slice_get old o ≡ Some b → slice_get after o ≡ Some (with_known (before ++ end ∷ []) o b)
    row_joined after end shown joins o b at =
        let lt = slice_get_within old o b at in
        let e = there row o (omega (arith, h.wide, r.wide)) in
        let f : OperatorSide → List Letter = λ y. session_sent y o in
        let sent : f end ≡ e.0.seen.sent = ap f (sym shown) ∙ get_or_from_slice_get (map (λ (y : SessionSide). y.seen.sent) row) o e.0.seen.sent [] (map_at (λ (y : SessionSide). y.seen.sent) row o e.0 e.1) in
        let known : (b.seen.known ++ map f before) ++ e.0.seen.sent ∷ [] ≡ b.seen.known ++ map f (before ++ end ∷ []) =
        append_assoc b.seen.known (map f before) (e.0.seen.sent ∷ []) ∙ ap (λ l. b.seen.known ++ (map f before ++ l ∷ [])) (sym sent) ∙ ap (λ l. b.seen.known ++ l) (sym (map-append f before (end ∷ []))) in
        joins o (with_known before o b) e.0 (same o b at) e.1 ∙ ap (λ l. Some (record b { seen = record b.seen { known = l } })) known

  module _ (m : List Letters) (ends : List OperatorSide) (now : List BoardSide) (shown : map letters_of old ≡ m) (all : length ends ≡ s) (long : length now ≡ length old) (view_joined : (o : ℕ) (b : BoardSide) → slice_get old o ≡ Some b → slice_get now o ≡ Some (with_known ends o b)) where
    now_at : (o : ℕ) (x : BoardSide) → slice_get now o ≡ Some x → (b : BoardSide) × (slice_get old o ≡ Some b) × (x ≡ with_known ends o b)
    now_at o x at = let was = there old o (omega (arith, slice_get_within now o x at)) in (was.0, was.1, cc (at, view_joined o was.0 was.1))

    pub now_whole : All (λ (b : BoardSide). IsWhole b.seen) now
    now_whole = all_from (λ (b : BoardSide). IsWhole b.seen) now (λ o x at.
        let w = now_at o x at in
        let run = running_at o w.0 w.1 in
        let f : OperatorSide → List Letter = λ y. session_sent y o in
        ap (λ (y : BoardSide). length y.seen.known) w.2 ∙ ap (λ l. length (l ++ map f ends)) run.known ∙ omega (arith, length-map ends f, all) ∙ sym run.made ∙ sym (ap (λ (y : BoardSide). y.seen.made) w.2))

    pub now_capacity : All (λ (b : BoardSide). b.seen.capacity ≡ n) now
    now_capacity = all_from (λ (b : BoardSide). b.seen.capacity ≡ n) now (λ o x at. let w = now_at o x at in ap (λ (y : BoardSide). y.seen.capacity) w.2 ∙ (running_at o w.0 w.1).capacity)

    pub now_final : ((k : ℕ) (e : OperatorSide) → slice_get ends k ≡ Some e → e.session ≡ k + 1) → (ds : List BoardSide) → length ds ≡ length now → ((o : ℕ) (b x : BoardSide) → slice_get now o ≡ Some b → slice_get ds o ≡ Some x → IsDrainOf b x) → (o : ℕ) → o < length d.objects → IsFinal m ends (map final_of ds) o
    now_final order ds wide drains o lt =
        let was = there old o (omega (arith, h.wide)) in
        let b = was.0 in
        let x = there ds o (omega (arith, h.wide)) in
        let run = running_at o b was.1 in
        let is = drains o (with_known ends o b) x.0 (view_joined o b was.1) x.1 in
        let at : final_at (map final_of ds) o ≡ final_of x.0 = get_or_from_slice_get (map final_of ds) o (final_of x.0) _ (map_at final_of ds o x.0 x.1) in
        let before : letters_at m o ≡ letters_of b = ap (λ l. letters_at l o) (sym shown) ∙ get_or_from_slice_get (map letters_of old) o (letters_of b) _ (map_at letters_of old o b was.1) in
        let f : OperatorSide → List Letter = λ y. session_sent y o in
        let sent : (q : Sender) → final_sent (map final_of ds) q o ≡ sent_of x.0.seen q = λ q. sent_is (map final_of ds) x.0 at q in
        record {
          taken = ap (λ (y : Final). y.taken) at ∙ is.taken ∙ sym (ap (λ (y : Letters). y.taken) before);
          objects = λ a. sent (Object a) ∙ ap (letters_from (Object a)) is.sent ∙ sym (ap (λ (y : Letters). letters_from (Object a) y.sent) before);
          operators = λ k e there'. let place : e.session ≡ suc k = omega (arith, order k e there') in sent (Operator e.session) ∙ ap (λ l. slice_index_or l e.session []) (is.known ∙ ap (λ l. l ++ map f ends) run.known) ∙ ap (λ j. slice_index_or ([] ∷ map f ends) j []) place ∙ get_or_from_slice_get (map f ends) k (f e) [] (map_at f ends k e there');
          nobody = λ k none. sent (Operator k) ∙ ap (λ l. slice_index_or l k []) (is.known ∙ ap (λ l. l ++ map f ends) run.known)
              ∙ ⊎_elim (λ (zeroth : k ≡ 0). ap (λ j. slice_index_or ([] ∷ map f ends) j []) zeroth)
              (λ (past : length ends < k). get_or_past ([] ∷ map f ends) k [] (omega (arith, past, length-map ends f))) none;
          settled = λ q. sent q ∙ is.settled q ∙ ap (λ (y : Final). letters_from q y.taken ++ letters_from q y.left) (sym at);
        }
      where
        sent_is : (ls : List Final) (y : BoardSide) → final_at ls o ≡ final_of y → (q : Sender) → final_sent ls q o ≡ sent_of y.seen q
        sent_is ls y e (Object a) = ap (λ (z : Final). letters_from (Object a) z.sent) e
        sent_is ls y e (Operator k) = ap (λ (z : Final). slice_index_or z.known k []) e
