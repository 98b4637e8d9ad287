-- What a task that reads makes of the world.
use Rattle.std.proofs.Common.{◌≡◌, ◌<◌, ◌-◌, ◌==◌, ℕ, Bool, true, false, cond, List, [], ◌∷◌, ◌++◌, length, length-append, map, Some, Ok, refl, sym, ap, ◌∙◌, subst, arith, ⊎_elim, inl, inr}
use Rattle.std.specs.Prelude.{slice_set}
use Rattle.std.specs.List.{All, list_all}
use Rattle.std.proofs.lemmas.Bool.{cases_eq, eq-eqb, ne_eqb, true≢false}
use Rattle.std.proofs.lemmas.List.{length-map}
use Rattle.std.proofs.lemmas.List.Elements.{All-cons, All-nil}
use Rattle.sml_domain.specs.Domain.{Domain}
use Rattle.sml_domain.specs.Program.{Subject}
use Rattle.sml_domain.specs.Truth.{Reading}
use Rattle.smi_journal_entries.specs.Sets.{Sets, sets_after}
use Rattle.smi_journal_entries.specs.declared.entry.Entry.{Entry}
use Rattle.smi_journal_entries.specs.declared.entry.Entry.TheVariants as entry
use Rattle.smi_journal_entries.specs.Words.{dead_of, initial_of, is_clear, open_at, state_of, waits_at}
use Rattle.smi_journal_entries.proofs.OneMore.{open_more, state_more, waits_more}
use Rattle.smi_meaning.specs.EntryLaws.{are_clear, reading_of}
use Rattle.smi_meaning.specs.Legal.{IsRead, is_clear_for}
use Rattle.smi_meaning.specs.Meaning.{Move, DidRead}
use Rattle.smi_interp.specs.declared.contact.Contact.TheVariants as named
use Rattle.smi_interp.specs.Expanded.{objects_by_names}
use Rattle.smi_interp.specs.Turn.{readings_of, sight_of}
use Rattle.smi_interp.specs.Task.{TaskView, IsNextContact, LeftNames, MayMake}
use Rattle.smi_mail_plain.specs.Boxes.{PlainView}
use Rattle.smi_board.specs.Boards.{BoardView, own_at, kept_at}
use Rattle.smi_board.specs.Reading.{states_now, waited}
use Rattle.smi_board.proofs.Sent.{either_way}
use Rattle.smi_board.proofs.Seen.{shown_seen}
use Rattle.smi_world.specs.declared.step.Answer.TheVariants.{Still}
use Rattle.smi_world.specs.Moves.{IsHeldBack, MayMove}
use Rattle.smi_core.specs.Machines.{Tasks, either_task, moves_in, moves_at, queue_in, setup_of, world_of}
use Rattle.smi_core.specs.Told.{BoardIsTold, TaskIsTaken, CoreGoes, HaveTheirs, with_task, entries_from, waited_from}
use Rattle.smi_core.proofs.Worlds.{world_kept, world_noted, world_moved}
use Rattle.smi_core.proofs.Tasks.{Others, SameElsewhere, others_self, others_one, have_after, has_beside, has_kept, written_elsewhere, written_here}
use Rattle.smi_core.proofs.Moving.{may_go, may_move, taken_out, taken_moves, world_moves, rest_elsewhere, put_here, rest_count, same_but_put, moves_elsewhere, moves_put, task_grown}
use Rattle.std.specs.Prelude.{◌&&◌}

-- ---- readings

-- objects with their states now, as they are read
pub readings_now : (d : Domain) (J : List Entry) (objects : List ℕ) → readings_of objects (states_now d J objects) ≡ map (reading_of d J) objects
readings_now d J [] = refl
readings_now d J (x ∷ objects) = ap (λ rs. reading_of d J x ∷ rs) (readings_now d J objects)

both_of : (a b : Bool) → (a && b) ≡ true → (a ≡ true) × (b ≡ true)
both_of true b h = (refl, h)
both_of false b h = absurd (true≢false (sym h))

all_read : (d : Domain) (J : List Entry) (o : ℕ) (objects : List ℕ) → are_clear J o objects ≡ true → All (IsRead d J o) (map (reading_of d J) objects)
all_read d J o [] clear = All-nil (IsRead d J o)
all_read d J o (x ∷ objects) clear =
    let two = both_of (is_clear o x J) (are_clear J o objects) clear in
    All-cons (IsRead d J o) (reading_of d J x) (map (reading_of d J) objects) (two.0, refl) (all_read d J o objects two.1)

pub clear_read : (d : Domain) (J : List Entry) (o : ℕ) (objects : List ℕ) → list_all (is_clear_for J o) (map (reading_of d J) objects) ≡ are_clear J o objects
clear_read d J o [] = refl
clear_read d J o (x ∷ objects) = ap (λ c. is_clear o x J && c) (clear_read d J o objects)

-- a task that waits to read may read what is so now
pub may_read : (t : TaskView) (d : Domain) (J : List Entry) (names : List Subject) → t.domain ≡ d → IsNextContact t (named.Read names)
    → MayMake t (t.turn.moves ++ DidRead (record { sets = sets_after d J; readings = map (reading_of d J) (objects_by_names d (sets_after d J) names) }) ∷ [])
may_read t d J names same next =
    let sets = sets_after d J in
    let objects = objects_by_names d sets names in
    let states = states_now d J objects in
    let long : length states ≡ length (objects_by_names t.domain sets names) = length-map objects (λ y. state_of d y J) ∙ ap (λ e. length (objects_by_names e sets names)) (sym same) in
    subst (λ rs. MayMake t (t.turn.moves ++ DidRead (record { sets = sets; readings = rs }) ∷ [])) (readings_now d J objects)
    (subst (λ e. MayMake t (t.turn.moves ++ DidRead (sight_of e sets names states) ∷ [])) same (next sets states long))

module _ (b : BoardView PlainView) (t : TaskView) (rest : Tasks) (names : List Subject) (told : BoardIsTold b) (h : TaskIsTaken b t rest) (l : LeftNames t (named.Read names)) (next : IsNextContact t (named.Read names)) where
  abbrev o : ℕ
  o = t.turn.object

  abbrev sets : Sets
  sets = sets_after b.domain b.journal

  abbrev objects : List ℕ
  objects = objects_by_names b.domain sets names

  abbrev readings : List Reading
  readings = map (reading_of b.domain b.journal) objects

  abbrev x : Move
  x = DidRead (record { sets = sets; readings = readings })

  abbrev tasks : Tasks
  tasks = with_task rest t

  reads_next : MayMove (setup_of b) (world_of b tasks) o x
  reads_next = may_move (setup_of b) (world_of b tasks) o t.turn.moves x (world_moves b t rest h)
      (may_go b o t told h.within (taken_out b t rest h).0 l.left (t.turn.moves ++ x ∷ []) l.leads
      (may_read t b.domain b.journal names (taken_out b t rest h).0.domain next))

  is_held : are_clear b.journal o objects ≡ false → IsHeldBack (setup_of b) (world_of b tasks) o
  is_held held = record { readings = readings; next = reads_next; held = clear_read b.domain b.journal o objects ∙ held }

  -- the board with the readings in its journal
  abbrev with_seen : BoardView PlainView
  with_seen = record b { journal = b.journal ++ entry.Seen o readings ∷ [] }

  pub sees_goes : (t2 : TaskView) → are_clear b.journal t.turn.object (objects_by_names b.domain (sets_after b.domain b.journal) names) ≡ true → t2.domain ≡ t.domain → t2.turn ≡ record t.turn { moves = t.turn.moves ++ x ∷ [] }
      → CoreGoes b (with_task rest t) t.turn.object (Ok (entries_from b.journal (b.journal ++ entry.Seen t.turn.object readings ∷ []))) with_seen (slice_set rest t.turn.object (Some t2))
  sees_goes t2 clear same turn =
      let out = taken_out b t rest h in
      let e = entry.Seen o readings in
      let K = b.journal ++ e ∷ [] in
      let tasks2 = slice_set rest o (Some t2) in
      let n = length b.domain.objects in
      let made : t2.turn.moves ≡ t.turn.moves ++ x ∷ [] = ap (λ y. y.moves) turn in
      record {
        moves = inr (inr (inl (record {
          readings = readings;
          next = reads_next;
          read = all_read b.domain b.journal o objects clear;
          answer = record { count = length K - length b.journal; answer = refl; added = omega (arith, length-append b.journal (e ∷ [])) };
          after = world_moved n K (queue_in b.mail) (moves_at b.kept tasks) (moves_at b.kept tasks2) o x h.within
              (moves_put b t rest h t2 b.kept ∙ made ∙ ap (λ ms. ms ++ x ∷ []) (sym (taken_moves b t rest h))) (λ y lt. moves_elsewhere b t rest h (Some t2) b.kept refl y);
        })));
        setup = refl;
        have = have_after b.domain o b.journal K b.params b.params b.kept b.kept tasks tasks2 (others_one b.domain o b.journal e refl)
            (same_but_put b t rest h (Some t2) b.params b.kept (λ y apart. refl) refl) h.have
            (has_beside b.domain K (own_at b.params o) o t2 (kept_at tasks2 o) (kept_at b.kept o) (put_here b t rest h (Some t2)) out.1
            (task_grown b.domain b.journal K (own_at b.params o) t t2 x out.0 same turn
            (open_more o b.journal e ∙ either_way (o == o) (open_at o b.journal))
            (state_more o (initial_of b.domain o) (dead_of b.domain o) b.journal e ∙ either_way (o == o) (state_of b.domain o b.journal))
            (shown_seen b.domain b.journal o readings)));
      }

  -- ---- waits

  -- the board that keeps the task, with a journal of its own
  abbrev keeping : List Entry → BoardView PlainView
  keeping J = record b { journal = J; kept = slice_set b.kept o (Some t) }

  kept_below : o < length b.kept
  kept_below = omega (arith, h.within, told.kept.count)

  kept_here : kept_at (slice_set b.kept o (Some t)) o ≡ Some t
  kept_here = written_here b.kept o (Some t) kept_below

  same_rest : SameElsewhere o b.params b.params b.kept (slice_set b.kept o (Some t)) tasks rest
  same_rest = record {
    own = λ y apart. refl;
    keeps = written_elsewhere b.kept o (Some t);
    beside = rest_elsewhere b t rest h;
    count = rest_count b t rest h;
  }

  keeps_moves : (y : ℕ) → y < length b.domain.objects → moves_at (slice_set b.kept o (Some t)) rest y ≡ moves_at b.kept tasks y
  keeps_moves y lt = ⊎_elim
      (λ (at : y ≡ o). ap (moves_at (slice_set b.kept o (Some t)) rest) at ∙ ap (λ s. moves_in (either_task s (kept_at (slice_set b.kept o (Some t)) o))) h.none ∙ ap moves_in kept_here ∙ sym (ap (moves_at b.kept tasks) at ∙ taken_moves b t rest h))
      (λ apart. ap (λ s. moves_in (either_task s (kept_at (slice_set b.kept o (Some t)) y))) (rest_elsewhere b t rest h y apart) ∙ ap (λ k. moves_in (either_task (kept_at tasks y) k)) (written_elsewhere b.kept o (Some t) y apart))
      (cases_eq y o)

  keeps_task : (K : List Entry) → Others b.domain o b.journal K → waits_at o K ≡ true → HaveTheirs (keeping K) rest
  keeps_task K others waits = have_after b.domain o b.journal K b.params b.params b.kept (slice_set b.kept o (Some t)) tasks rest others same_rest h.have
      (has_kept b.domain K (own_at b.params o) o t (kept_at rest o) (kept_at (slice_set b.kept o (Some t)) o) h.none kept_here waits)

  still : (J : List Entry) → waited_from J J ≡ Still
  still J = ap (λ c. cond c Still (entries_from J J)) (eq-eqb (length J) (length J) refl)

  not_still : (J : List Entry) (e : Entry) → waited_from J (J ++ e ∷ []) ≡ entries_from J (J ++ e ∷ [])
  not_still J e = ap (λ c. cond c Still (entries_from J (J ++ e ∷ []))) (ne_eqb (length (J ++ e ∷ [])) (length J) (λ is. absurd (omega (arith, is, length-append J (e ∷ [])))))

  waits_by : are_clear b.journal o objects ≡ false → (c : Bool) → waits_at o b.journal ≡ c → CoreGoes b tasks o (Ok (waited_from b.journal (cond c b.journal (b.journal ++ entry.Wait o ∷ [])))) (keeping (cond c b.journal (b.journal ++ entry.Wait o ∷ []))) rest
  waits_by held true is = record {
    moves = inr (inr (inr (inr (inl (record {
      held = is_held held;
      waits = is;
      answer = still b.journal;
      after = world_kept b (keeping b.journal) tasks rest refl refl (λ y lt. refl) keeps_moves;
    })))));
    setup = refl;
    have = keeps_task b.journal (others_self b.domain o b.journal) is;
  }
  waits_by held false is =
      let e = entry.Wait o in
      let K = b.journal ++ e ∷ [] in
      record {
        moves = inr (inr (inr (inl (record {
          held = is_held held;
          first = is;
          answer = record { count = length K - length b.journal; answer = not_still b.journal e; added = omega (arith, length-append b.journal (e ∷ [])) };
          after = world_noted b (keeping K) tasks rest refl e refl (λ y lt. refl) keeps_moves;
        }))));
        setup = refl;
        have = keeps_task K (others_one b.domain o b.journal e refl) (waits_more o b.journal e ∙ ap (λ c. cond c true (waits_at o b.journal)) (eq-eqb o o refl));
      }

  pub waits_goes : are_clear b.journal t.turn.object (objects_by_names b.domain (sets_after b.domain b.journal) names) ≡ false → CoreGoes b (with_task rest t) t.turn.object (Ok (waited_from b.journal (waited t.turn.object b.journal))) (keeping (waited t.turn.object b.journal)) rest
  waits_goes held = waits_by held (waits_at o b.journal) refl
