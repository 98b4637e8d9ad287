-- What a task that changes a set makes of the world.
use Rattle.std.proofs.Common.{◌≡◌, ◌-◌, ◌==◌, ℕ, Bool, true, false, cond, List, [], ◌∷◌, ◌++◌, length, length-append, Some, Ok, refl, sym, ap, ◌∙◌, arith, inr}
use Rattle.std.specs.Prelude.{slice_set}
use Rattle.std.proofs.lemmas.Bool.{eq-eqb}
use Rattle.sml_domain.specs.Domain.{Domain}
use Rattle.smi_journal_entries.specs.declared.entry.Entry.{Entry}
use Rattle.smi_journal_entries.specs.declared.entry.Entry.TheVariants.{Insert, Remove}
use Rattle.smi_journal_entries.specs.Words.{Turned, dead_of, initial_of, object_of, open_at, shown_of, state_of, change_entry}
use Rattle.smi_journal_entries.proofs.OneMore.{open_more, shown_more, state_more}
use Rattle.smi_meaning.specs.Meaning.{DidChange, Move}
use Rattle.smi_interp.specs.declared.contact.Contact.TheVariants as named
use Rattle.smi_interp.specs.Task.{IsNextContact, LeftNames, TaskView}
use Rattle.smi_mail_plain.specs.Boxes.{PlainView}
use Rattle.smi_board.specs.Boards.{BoardView, kept_at, own_at}
use Rattle.smi_board.proofs.Sent.{either_way}
use Rattle.smi_world.specs.World.{moved, noted}
use Rattle.smi_core.specs.Machines.{Tasks, moves_at, queue_in, setup_of, world_of}
use Rattle.smi_core.specs.Told.{CoreGoes, TaskIsTaken, BoardIsTold, entries_from, with_task}
use Rattle.smi_core.proofs.Worlds.{world_moved}
use Rattle.smi_core.proofs.Tasks.{has_beside, have_after, others_one}
use Rattle.smi_core.proofs.Moving.{may_go, may_move, moves_elsewhere, moves_put, put_here, same_but_put, taken_moves, taken_out, task_grown, world_moves}

-- an entry of a change is of its object, where it leaves open what was open, in the state that was, and shows the
-- change
record IsNoted (d : Domain) (J : List Entry) (o : ℕ) (add : Bool) (member set : ℕ) (e : Entry) : Type 0 where
  of : object_of e ≡ o
  opened : open_at o (J ++ e ∷ []) ≡ open_at o J
  state : state_of d o (J ++ e ∷ []) ≡ state_of d o J
  shown : shown_of d o (J ++ e ∷ []) ≡ shown_of d o J ++ Turned add member set ∷ []
  same : e ≡ change_entry o add member set

is_noted : (d : Domain) (J : List Entry) (o : ℕ) (add : Bool) (member set : ℕ) → IsNoted d J o add member set (change_entry o add member set)
is_noted d J o true member set = record {
  of = refl;
  opened = open_more o J (Insert o member set) ∙ either_way (o == o) (open_at o J);
  state = state_more o (initial_of d o) (dead_of d o) J (Insert o member set) ∙ either_way (o == o) (state_of d o J);
  shown = shown_more d o J (Insert o member set) ∙ ap (λ c. cond c (shown_of d o J ++ Turned true member set ∷ []) (shown_of d o J)) (eq-eqb o o refl);
  same = refl;
}
is_noted d J o false member set = record {
  of = refl;
  opened = open_more o J (Remove o member set) ∙ either_way (o == o) (open_at o J);
  state = state_more o (initial_of d o) (dead_of d o) J (Remove o member set) ∙ either_way (o == o) (state_of d o J);
  shown = shown_more d o J (Remove o member set) ∙ ap (λ c. cond c (shown_of d o J ++ Turned false member set ∷ []) (shown_of d o J)) (eq-eqb o o refl);
  same = refl;
}

module _ (b : BoardView PlainView) (t : TaskView) (rest : Tasks) (add : Bool) (member set : ℕ) (told : BoardIsTold b) (h : TaskIsTaken b t rest) (l : LeftNames t (named.Change add member set)) (next : IsNextContact t (named.Change add member set)) where
  abbrev o : ℕ
  o = t.turn.object

  abbrev x : Move
  x = DidChange add member set

  abbrev tasks : Tasks
  tasks = with_task rest t

  abbrev e : Entry
  e = change_entry o add member set

  -- the board with the change in its journal
  abbrev with_change : BoardView PlainView
  with_change = record b { journal = b.journal ++ e ∷ [] }

  pub changes_goes : (t2 : TaskView) → t2.domain ≡ t.domain → t2.turn ≡ record t.turn { moves = t.turn.moves ++ x ∷ [] }
      → CoreGoes b (with_task rest t) t.turn.object (Ok (entries_from b.journal (b.journal ++ change_entry t.turn.object add member set ∷ []))) with_change (slice_set rest t.turn.object (Some t2))
  changes_goes t2 same turn =
      let out = taken_out b t rest h in
      let K = b.journal ++ e ∷ [] in
      let tasks2 = slice_set rest o (Some t2) in
      let n = length b.domain.objects in
      let note = is_noted b.domain b.journal o add member set in
      let made : t2.turn.moves ≡ t.turn.moves ++ x ∷ [] = ap (λ y. y.moves) turn in
      record {
        moves = inr (inr (inr (inr (inr (inr (record {
          add = add;
          member = member;
          set = set;
          next = may_move (setup_of b) (world_of b tasks) o t.turn.moves x (world_moves b t rest h) (may_go b o t told h.within out.0 l.left (t.turn.moves ++ x ∷ []) l.leads next);
          answer = record { count = length K - length b.journal; answer = refl; added = omega (arith, length-append b.journal (e ∷ [])) };
          after = world_moved n K (queue_in b.mail) (moves_at b.kept tasks) (moves_at b.kept tasks2) o x h.within
              (moves_put b t rest h t2 b.kept ∙ made ∙ ap (λ ms. ms ++ x ∷ []) (sym (taken_moves b t rest h))) (λ y lt. moves_elsewhere b t rest h (Some t2) b.kept refl y)
              ∙ ap (λ y. moved (noted (world_of b tasks) y) o x) note.same;
        }))))));
        setup = refl;
        have = have_after b.domain o b.journal K b.params b.params b.kept b.kept tasks tasks2 (others_one b.domain o b.journal e note.of)
            (same_but_put b t rest h (Some t2) b.params b.kept (λ y apart. refl) refl) h.have
            (has_beside b.domain K (own_at b.params o) o t2 (kept_at tasks2 o) (kept_at b.kept o) (put_here b t rest h (Some t2)) out.1
            (task_grown b.domain b.journal K (own_at b.params o) t t2 x out.0 same turn note.opened note.state note.shown));
      }
