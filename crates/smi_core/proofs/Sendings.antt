-- What a task that sends makes of the world.
use Rattle.std.proofs.Common.{◌≡◌, ◌-◌, ℕ, List, [], ◌∷◌, ◌++◌, length, Some, Ok, refl, sym, ap, ◌∙◌, subst, arith, inl, inr}
use Rattle.std.specs.Prelude.{slice_set}
use Rattle.std.specs.List.{All}
use Rattle.smi_journal_entries.specs.declared.entry.Verdict.{Verdict}
use Rattle.smi_meaning.specs.Items.{Post}
use Rattle.smi_journal_entries.specs.Sets.{Sets, sets_after}
use Rattle.smi_meaning.specs.Meaning.{Move, DidSend, Wanted}
use Rattle.smi_interp.specs.declared.contact.Contact.TheVariants as named
use Rattle.smi_interp.specs.Expanded.{posts_in}
use Rattle.smi_interp.specs.Turn.{posted_of, sending_of}
use Rattle.smi_interp.specs.Task.{TaskView, IsNextContact, LeftNames, MayMake}
use Rattle.smi_mail_plain.specs.Boxes.{PlainView, taken_at, sent_at, waiting_at}
use Rattle.smi_board.specs.Boards.{BoardView, own_at, kept_at}
use Rattle.smi_board.specs.Contacts.{AreSent}
use Rattle.smi_board.specs.Posting.{Lists, IsPostable}
use Rattle.smi_board.specs.Turns.{IsOf}
use Rattle.smi_core.specs.Machines.{Tasks, HaveTasks, moves_at, queue_in, setup_of, world_of}
use Rattle.smi_core.specs.Told.{BoardIsTold, TaskIsTaken, CoreGoes, with_task, entries_from}
use Rattle.smi_core.proofs.Worlds.{world_in, worlds_same, listed_of, listed_put}
use Rattle.smi_core.proofs.Tasks.{have_after, has_beside}
use Rattle.smi_core.proofs.Posted.{AreLists, queue_by, posts_all, lists_sent, sent_long, shows_posts}
use Rattle.smi_core.proofs.Moving.{may_go, may_move, taken_out, taken_moves, world_moves, put_here, same_but_put, moves_elsewhere, moves_put, task_grown}

-- the lists of the mail of one thread
abbrev pub lists_of : PlainView → Lists
lists_of m = record { taken = taken_at m; sent = sent_at m; waiting = λ o. Some (waiting_at m o); capacity = m.capacity }

-- ---- posts

module _ (b b2 : BoardView PlainView) (t : TaskView) (rest : Tasks) (w : Wanted) (vs : List Verdict) (told : BoardIsTold b) (h : TaskIsTaken b t rest) (l : LeftNames t (named.Send w)) (next : IsNextContact t (named.Send w)) (there : All (IsPostable b.domain) (posts_in b.domain (sets_after b.domain b.journal) w))
    (judged : AreSent t.turn.object w.target (lists_of b.mail) b.journal (posts_in b.domain (sets_after b.domain b.journal) w) vs (lists_of b2.mail) b2.journal) (domain : b2.domain ≡ b.domain) (most : b2.most ≡ b.most) (params : b2.params ≡ b.params) (kept : b2.kept ≡ b.kept) where
  abbrev o : ℕ
  o = t.turn.object

  abbrev sets : Sets
  sets = sets_after b.domain b.journal

  abbrev posts : List Post
  posts = posts_in b.domain sets w

  abbrev x : Move
  x = DidSend (sending_of b.domain sets w vs)

  lists : AreLists (lists_of b.mail) o b.mail.capacity b.journal
  lists = record { taken = told.tied.taken_is; sent = λ y. refl; known = λ y. refl; limit = refl }

  -- whatever task it is to which the verdicts were told
  pub sends_goes : (t2 : TaskView) → t2.domain ≡ t.domain → t2.turn ≡ record t.turn { moves = t.turn.moves ++ x ∷ [] } → CoreGoes b (with_task rest t) t.turn.object (Ok (entries_from b.journal b2.journal)) b2 (slice_set rest t.turn.object (Some t2))
  sends_goes t2 same turn =
      let out = taken_out b t rest h in
      let shows = shows_posts b.domain o w.target (lists_of b.mail) (lists_of b2.mail) b.journal b2.journal posts vs judged in
      let tasks = with_task rest t in
      let tasks2 = slice_set rest o (Some t2) in
      let n = length b.domain.objects in
      let made : t2.turn.moves ≡ t.turn.moves ++ x ∷ [] = ap (λ y. y.moves) turn in
      let long : length vs ≡ length (posts_in t.domain sets w) =
      sent_long o w.target (lists_of b.mail) (lists_of b2.mail) b.journal b2.journal posts vs judged ∙ ap (λ d. length (posts_in d sets w)) (sym out.0.domain) in
      let may = subst (λ d. MayMake t (t.turn.moves ++ DidSend (sending_of d sets w vs) ∷ [])) out.0.domain (next sets vs long) in
      record {
        moves = inr (inl (record {
          to = w.target;
          posts = posted_of posts vs;
          next = may_move (setup_of b) (world_of b tasks) o t.turn.moves x (world_moves b t rest h)
              (may_go b o t told h.within out.0 l.left (t.turn.moves ++ x ∷ []) l.leads may);
          mid = world_in n b2.journal (queue_by (lists_of b2.mail)) (moves_at b.kept tasks);
          posted = posts_all (setup_of b) o (moves_at b.kept tasks) (lists_of b.mail) (lists_of b2.mail) b.journal b2.journal w.target posts vs there lists judged;
          answer = record { count = length b2.journal - length b.journal; answer = refl; added = omega (arith, shows.longer) };
          after = worlds_same refl (listed_of b2.domain b.domain (queue_in b2.mail) domain)
              (listed_of b2.domain b.domain (moves_at b2.kept tasks2) domain ∙ listed_put n (moves_at b.kept tasks) (moves_at b2.kept tasks2) o x h.within
              (moves_put b t rest h t2 b2.kept ∙ made ∙ ap (λ ms. ms ++ x ∷ []) (sym (taken_moves b t rest h)))
              (λ y lt. moves_elsewhere b t rest h (Some t2) b2.kept kept y));
        }));
        setup = λ i. record { domain = domain i; capacity = (lists_sent (lists_of b.mail) (lists_of b2.mail) o b.mail.capacity w.target b.journal b2.journal posts vs lists judged).limit i; max_starts = most i };
        have = subst (λ d. HaveTasks d b2.journal b2.params b2.kept tasks2) (sym domain)
            (have_after b.domain o b.journal b2.journal b.params b2.params b.kept b2.kept tasks tasks2 shows.others
            (same_but_put b t rest h (Some t2) b2.params b2.kept (λ y apart. ap (λ p. own_at p y) params) kept) h.have
            (has_beside b.domain b2.journal (own_at b2.params o) o t2 (kept_at tasks2 o) (kept_at b2.kept o) (put_here b t rest h (Some t2)) (ap (λ k. kept_at k o) kept ∙ out.1)
            (subst (λ p. IsOf b.domain b2.journal (own_at p o) o t2) (sym params)
            (task_grown b.domain b.journal b2.journal (own_at b.params o) t t2 x out.0 same turn shows.opened shows.state shows.shown))));
      }
