-- What steps at one object leave as it was at all others.
use Rattle.std.proofs.Common.{◌≡◌, ◌+◌, ℕ, ◌==◌, Bool, true, false, cond, List, [], ◌∷◌, ◌++◌, length, refl, ap, sym}
use Rattle.std.proofs.Common.{subst, ◌∙◌, arith, inl, inr, length-append}
use Rattle.std.specs.Prelude.{is_some}
use Rattle.std.proofs.lemmas.Bool.{eqb-false, eq-eqb}
use Rattle.std.proofs.lemmas.List.{get_or-set_other, length-set}
use Rattle.sml_domain.specs.Program.{Target, ToOne, ToMembers}
use Rattle.smi_journal_entries.specs.declared.entry.Verdict.{Verdict}
use Rattle.smi_journal_entries.specs.declared.entry.Verdict.TheVariants.{Accepted, Full, Dead}
use Rattle.smi_journal_entries.specs.declared.entry.ActionEnd.{ActionEnd}
use Rattle.smi_journal_entries.specs.declared.entry.Cause.{Cause}
use Rattle.smi_journal_entries.specs.declared.entry.Entry.{Entry}
use Rattle.smi_journal_entries.specs.declared.entry.Entry.TheVariants.{Wait, Seen, End, Kill, Insert, Remove, NoMember}
use Rattle.smi_journal_entries.specs.Words.{object_of, any_start, all_starts, is_open, open_at, opened_by, waits_at, is_wait, change_entry}
use Rattle.smi_journal_entries.proofs.OneMore.{all_more, open_more, waits_more}
use Rattle.smi_meaning.specs.Items.{Post, Posted, entry_of}
use Rattle.smi_meaning.specs.Meaning.{Move}
use Rattle.smi_world.specs.declared.step.Answer.{Answer}
use Rattle.smi_world.specs.World.{Setup, World, list_at, moves_of, noted, moved, turned}
use Rattle.smi_world.specs.Moves.{PostsAs, PostsEach, PostsAll, ActionGoesOn}

-- ---- journals

-- a journal goes on by entries of one object alone, which start k requests
pub record IsWrittenAt (o k : ℕ) (J K : List Entry) : Type 0 where
  pub opened : (y : ℕ) → (y == o) ≡ false → is_open y K ≡ is_open y J
  pub waits : (y : ℕ) → (y == o) ≡ false → waits_at y K ≡ waits_at y J
  pub starts : length (all_starts K) ≡ length (all_starts J) + k

pub written_not : (o : ℕ) (J : List Entry) → IsWrittenAt o 0 J J
written_not o J = record { opened = λ y other. refl; waits = λ y other. refl; starts = omega arith }

pub written_one : (o : ℕ) (J : List Entry) (e : Entry) → object_of e ≡ o
    → IsWrittenAt o (length (any_start e)) J (J ++ e ∷ [])
written_one o J e is = record {
  opened = λ y other.
      let not_own : (y == object_of e) ≡ false = ap (λ x. y == x) is ∙ other in
      ap (λ l. is_some l) (open_more y J e ∙ ap (λ b. cond b (opened_by (open_at y J) e) (open_at y J)) not_own);
  waits = λ y other.
      let not_own : (y == object_of e) ≡ false = ap (λ x. y == x) is ∙ other in
      waits_more y J e ∙ ap (λ b. cond b (is_wait e) (waits_at y J)) not_own;
  starts = ap (λ l. length l) (all_more J e) ∙ length-append (all_starts J) (any_start e);
}

pub written_then : (o k : ℕ) (J K L : List Entry) → IsWrittenAt o k J K → IsWrittenAt o 0 K L → IsWrittenAt o k J L
written_then o k J K L a b = record {
  opened = λ y other. b.opened y other ∙ a.opened y other;
  waits = λ y other. b.waits y other ∙ a.waits y other;
  starts = let s = a.starts in let t = b.starts in omega (arith, s, t);
}

-- what an entry does at its own object
next_opened : (o : ℕ) (J : List Entry) (e : Entry)
    → object_of e ≡ o → is_open o (J ++ e ∷ []) ≡ is_some (opened_by (open_at o J) e)
next_opened o J e is =
    let own = eq-eqb o (object_of e) (sym is) in
    ap (λ l. is_some l) (open_more o J e ∙ ap (λ b. cond b (opened_by (open_at o J) e) (open_at o J)) own)

pub waits_after : (o : ℕ) (J : List Entry) → waits_at o (J ++ Wait o ∷ []) ≡ true
waits_after o J = waits_more o J (Wait o) ∙ ap (λ b. cond b true (waits_at o J)) (eq-eqb o o refl)

pub closed_by_end : (o : ℕ) (J : List Entry) (r : ActionEnd) → is_open o (J ++ End o r ∷ []) ≡ false
closed_by_end o J r = next_opened o J (End o r) refl

pub closed_by_kill : (o : ℕ) (J : List Entry) (c : Cause) → is_open o (J ++ Kill o c ∷ []) ≡ false
closed_by_kill o J c = next_opened o J (Kill o c) refl

-- ---- worlds

-- a world goes on so at one object, and no other makes a move
pub record GoesOnAt (o k : ℕ) (w w2 : World) : Type 0 where
  pub written : IsWrittenAt o k w.journal w2.journal
  pub moves : (y : ℕ) → (y == o) ≡ false → moves_of y w2 ≡ moves_of y w
  pub count : length w2.moves ≡ length w.moves

pub at_turned : (o : ℕ) (w : World) (e : Entry) → object_of e ≡ o → GoesOnAt o (length (any_start e)) w (turned w o e)
at_turned o w e is = record {
  written = written_one o w.journal e is;
  moves = λ y other. get_or-set_other w.moves o y [] [] (eqb-false y o other);
  count = length-set w.moves o [];
}

pub at_twice : (o k : ℕ) (w mid w2 : World) → GoesOnAt o k w mid → GoesOnAt o 0 mid w2 → GoesOnAt o k w w2
at_twice o k w mid w2 a b = record {
  written = written_then o k w.journal mid.journal w2.journal a.written b.written;
  moves = λ y other. b.moves y other ∙ a.moves y other;
  count = b.count ∙ a.count;
}

-- a world goes on so, and no object at all makes a move
pub record IsOnlyWritten (o k : ℕ) (w w2 : World) : Type 0 where
  pub written : IsWrittenAt o k w.journal w2.journal
  pub moves : w2.moves ≡ w.moves

pub at_written : (o k : ℕ) (w w2 : World) → IsOnlyWritten o k w w2 → GoesOnAt o k w w2
at_written o k w w2 h = record {
  written = h.written;
  moves = λ y other. ap (λ l. list_at l y) h.moves;
  count = ap (λ l. length l) h.moves;
}

-- so it is where the object then makes a move
pub at_moved : (o k : ℕ) (w mid : World) (x : Move) → IsOnlyWritten o k w mid → GoesOnAt o k w (moved mid o x)
at_moved o k w mid x h = record {
  written = h.written;
  moves = λ y other.
      get_or-set_other mid.moves o y (moves_of o mid ++ x ∷ []) [] (eqb-false y o other)
      ∙ ap (λ l. list_at l y) h.moves;
  count = length-set mid.moves o (moves_of o mid ++ x ∷ []) ∙ ap (λ l. length l) h.moves;
}

only_not : (o : ℕ) (w : World) → IsOnlyWritten o 0 w w
only_not o w = record { written = written_not o w.journal; moves = refl }

pub only_noted : (o : ℕ) (w : World) (e : Entry) → object_of e ≡ o
    → IsOnlyWritten o (length (any_start e)) w (noted w e)
only_noted o w e is = record { written = written_one o w.journal e is; moves = refl }

only_then : (o : ℕ) (w mid w2 : World) → IsOnlyWritten o 0 w mid → IsOnlyWritten o 0 mid w2 → IsOnlyWritten o 0 w w2
only_then o w mid w2 a b = record {
  written = written_then o 0 w.journal mid.journal w2.journal a.written b.written;
  moves = b.moves ∙ a.moves;
}

-- posts
only_post : (m : Setup) (w w2 : World) (o : ℕ) (p : Post) (v : Verdict) → PostsAs v m w o p w2 → IsOnlyWritten o 0 w w2
only_post m w w2 o p (Accepted n) h =
    let written = written_one o w.journal (entry_of o p (Accepted n)) refl in
    subst (IsOnlyWritten o 0 w) (sym h.2) (record { written = written; moves = refl })
only_post m w w2 o p Full h = subst (IsOnlyWritten o 0 w) (sym h.2) (only_noted o w (entry_of o p Full) refl)
only_post m w w2 o p Dead h = subst (IsOnlyWritten o 0 w) (sym h.1) (only_noted o w (entry_of o p Dead) refl)

only_posts : (m : Setup) (w w2 : World) (o : ℕ) (ps : List Posted) → PostsEach m w o ps w2 → IsOnlyWritten o 0 w w2
only_posts m w w2 o [] h = subst (IsOnlyWritten o 0 w) (sym h) (only_not o w)
only_posts m w w2 o (p ∷ ps) h =
    only_then o w h.0 w2 (only_post m w h.0 o p.post p.verdict h.1) (only_posts m h.0 w2 o ps h.2)

pub only_posted : (m : Setup) (w w2 : World) (o : ℕ) (to : Target) (ps : List Posted) → PostsAll m w o to ps w2
    → IsOnlyWritten o 0 w w2
only_posted m w w2 o (ToOne t) [] h = subst (IsOnlyWritten o 0 w) (sym h) (only_not o w)
only_posted m w w2 o (ToMembers set) [] h = subst (IsOnlyWritten o 0 w) (sym h) (only_noted o w (NoMember o set) refl)
only_posted m w w2 o to (p ∷ ps) h = only_posts m w w2 o (p ∷ ps) h

only_changed : (w : World) (o : ℕ) (add : Bool) (member set : ℕ)
    → IsOnlyWritten o 0 w (noted w (change_entry o add member set))
only_changed w o true member set = only_noted o w (Insert o member set) refl
only_changed w o false member set = only_noted o w (Remove o member set) refl

-- a go
pub at_go : (m : Setup) (w w2 : World) (o : ℕ) (a : Answer) → ActionGoesOn m w o a w2 → GoesOnAt o 0 w w2
at_go m w w2 o a (inl g) = subst (GoesOnAt o 0 w) (sym g.after) (at_moved o 0 w w _ (only_not o w))
at_go m w w2 o a (inr (inl g)) =
    subst (GoesOnAt o 0 w) (sym g.after) (at_moved o 0 w g.mid _ (only_posted m w g.mid o g.to g.posts g.posted))
at_go m w w2 o a (inr (inr (inl g))) =
    let e = Seen o g.readings in
    subst (GoesOnAt o 0 w) (sym g.after) (at_moved o 0 w (noted w e) _ (only_noted o w e refl))
at_go m w w2 o a (inr (inr (inr (inl g)))) =
    subst (GoesOnAt o 0 w) (sym g.after) (at_written o 0 w (noted w (Wait o)) (only_noted o w (Wait o) refl))
at_go m w w2 o a (inr (inr (inr (inr (inl g))))) =
    subst (GoesOnAt o 0 w) (sym g.after) (at_written o 0 w w (only_not o w))
at_go m w w2 o a (inr (inr (inr (inr (inr (inl g)))))) =
    subst (GoesOnAt o 0 w) (sym g.after) (at_turned o w (End o _) refl)
at_go m w w2 o a (inr (inr (inr (inr (inr (inr g)))))) =
    subst (GoesOnAt o 0 w) (sym g.after)
    (at_moved o 0 w (noted w (change_entry o g.add g.member g.set)) _ (only_changed w o g.add g.member g.set))
