-- Within a send its next post comes next, by the members of its first.
use Rattle.std.proofs.Common.{◌≡◌, ◌∙◌, sym, ap, refl, subst, ℕ, zero, suc, ◌<◌, List, [], ◌∷◌, ◌++◌, append_assoc, map, arith, length, Some, None}
use Rattle.std.specs.Prelude.{slice_get}
use Rattle.sml_domain.specs.Program.{Target, ToOne, ToMembers, Program, Nothing, SetThen, SendThen, SendNoneThen, IfThen, EndIn, TerminateIn, WaitThen, ChangeThen}
use Rattle.sml_domain.specs.Domain.{Domain}
use Rattle.smi_journal_entries.specs.Sets.{Sets, members_in}
use Rattle.smi_journal_entries.specs.Words.{Item}
use Rattle.smi_meaning.specs.Items.{Posted, Sending, item_of}
use Rattle.smi_meaning.specs.Environment.{Env}
use Rattle.smi_meaning.specs.Laws.{ComesNext}
use Rattle.smi_meaning.specs.Meaning.{Move, DidSet, DidSend, DidRead, DidChange, IsSending, wanted, post_of}
use Rattle.smi_meaning.specs.Shown.{BeginsToShow, items_of, shown_moves}
use Rattle.smi_meaning.specs.Steps.{After, Leads}
use Rattle.smi_meaning.proofs.Blocks.{first}
use Rattle.smi_meaning.proofs.Showing.{next_is_shown}
use Rattle.smi_meaning.proofs.Within.{same_count}

-- two sends that may come next, by the same members, are of the same requests
sends_same : (d : Domain) (b : Program) (env : Env) (s t : Sending) (l1 l2 : Program) (e1 e2 : Env) → After d b env (DidSend s) l1 e1 → After d b env (DidSend t) l2 e2 → s.sets ≡ t.sets
    → map post_of s.posts ≡ map post_of t.posts
sends_same d Nothing env s t l1 l2 e1 e2 h g same = absurd h
sends_same d (EndIn x) env s t l1 l2 e1 e2 h g same = absurd h
sends_same d (TerminateIn x) env s t l1 l2 e1 e2 h g same = absurd h
sends_same d (SetThen p x rest) env s t l1 l2 e1 e2 h g same = let e = h.0 in absurd (cc e)
sends_same d (IfThen c p q rest) env s t l1 l2 e1 e2 h g same = let e = h.1 in absurd (cc e)
sends_same d (WaitThen names rest) env s t l1 l2 e1 e2 h g same = let e = h.1 in absurd (cc e)
sends_same d (ChangeThen add o set rest) env s t l1 l2 e1 e2 h g same = let e = h.0 in absurd (cc e)
sends_same d (SendThen to a args rest) env s t l1 l2 e1 e2 h g same =
    let i : IsSending d to a args env s = let e : s ≡ h.0 = cc h.1 in subst (IsSending d to a args env) (sym e) h.2 in
    let j : IsSending d to a args env t = let e : t ≡ g.0 = cc g.1 in subst (IsSending d to a args env) (sym e) g.2 in
    i.1 ∙ ap (λ x. wanted d (members_in d x) to a args env) same ∙ sym j.1
sends_same d (SendNoneThen set rest) env s t l1 l2 e1 e2 h g same =
    let i : s ≡ h.0 = cc h.1 in
    let j : t ≡ g.0 = cc g.1 in
    ap (λ x. map post_of x.posts) i ∙ ap (map post_of) h.2.1 ∙ sym (ap (map post_of) g.2.1) ∙ sym (ap (λ x. map post_of x.posts) j)

got : (ps : List Posted) (n : ℕ) (x : Posted) → slice_get ps n ≡ Some x → slice_get (map post_of ps) n ≡ Some x.post
got [] n x h = let e : None ≡ Some x = h in absurd (cc)
got (p ∷ ps) zero x h = let e : p ≡ x = cc h in ap (λ (y : Posted). Some y.post) e
got (p ∷ ps) (suc n) x h = got ps n x h

-- what is behind some posts of a send is the next of them
pick : (t s : Sets) (ps : List Posted) (u : List Item) (qs : List Posted) (item : Item) (more : List Item) → length qs < length ps
    → map (item_of t) ps ++ u ≡ map (item_of s) qs ++ item ∷ more → (x : Posted) × (item ≡ item_of t x) × (slice_get ps (length qs) ≡ Some x)
pick t s [] u qs item more lt e = absurd (omega (arith, lt))
pick t s (p ∷ ps) u [] item more lt e = let i : item_of t p ≡ item = cc e in (p, sym i, refl)
pick t s (p ∷ ps) u (q ∷ qs) item more lt e =
    let tail : map (item_of t) ps ++ u ≡ map (item_of s) qs ++ item ∷ more = cc e in
    let less : length qs < length ps = omega (arith, lt) in
    pick t s ps u qs item more less tail

-- what comes next in a send of which some posts were shown
pub record NextOf (s : Sending) (n : ℕ) (item : Item) : Type 0 where
  pub post : Posted
  pub is : item ≡ item_of s.sets post
  pub at : slice_get (map post_of s.posts) n ≡ Some post.post

length-items : (sets : Sets) (xs : List Posted) → length (map (item_of sets) xs) ≡ length xs
length-items sets [] = refl
length-items sets (y ∷ ys) = let h = length-items sets ys in omega (arith, h)

-- a first move that shows as many posts
of_move : (d : Domain) (left : Program) (env1 : Env) (s : Sending) (l2 : Program) (e2 : Env) (q : Posted) (qs : List Posted) (item : Item) (more u : List Item) (m : Move) (l : Program) (e : Env)
    → After d left env1 (DidSend s) l2 e2 → After d left env1 m l e → length (q ∷ qs) < length s.posts → length (items_of m) ≡ length s.posts
    → items_of m ++ u ≡ map (item_of s.sets) (q ∷ qs) ++ item ∷ more → NextOf s (length (q ∷ qs)) item
of_move d left env1 s l2 e2 q qs item more u (DidSet p v) l e a b lt same is = absurd (omega (arith, lt, same))
of_move d left env1 s l2 e2 q qs item more u (DidRead k) l e a b lt same is = absurd (omega (arith, lt, same))
of_move d left env1 s l2 e2 q qs item more u (DidChange add o set) l e a b lt same is = absurd (omega (arith, lt, same))
of_move d left env1 s l2 e2 q qs item more u (DidSend t) l e a b lt same is = go t.to t.posts refl same is
  where
    go : (to : Target) (ps : List Posted) → t.posts ≡ ps → length (items_of (DidSend (record t { to = to; posts = ps }))) ≡ length s.posts
        → items_of (DidSend (record t { to = to; posts = ps })) ++ u ≡ map (item_of s.sets) (q ∷ qs) ++ item ∷ more → NextOf s (length (q ∷ qs)) item
    go (ToOne x) [] posts n is = absurd (omega (arith, lt, n))
    go (ToMembers set) [] posts n is = absurd (omega (arith, lt, n))
    go to (p ∷ ps) posts n is =
        let head : item_of t.sets p ≡ item_of s.sets q = cc is in
        let sets : t.sets ≡ s.sets = cc head in
        let less : length (q ∷ qs) < length (p ∷ ps) = let k = length-items t.sets (p ∷ ps) in omega (arith, lt, n, k) in
        let x = pick t.sets s.sets (p ∷ ps) u (q ∷ qs) item more less is in
        let there : slice_get (map post_of t.posts) (length (q ∷ qs)) ≡ Some x.0.post = got t.posts (length (q ∷ qs)) x.0 (ap (λ l. slice_get l (length (q ∷ qs))) posts ∙ x.2) in
        record {
          post = x.0;
          is = x.1 ∙ ap (λ z. item_of z x.0) sets;
          at = ap (λ l. slice_get l (length (q ∷ qs))) (sends_same d left env1 s t l2 l e2 e a b (sym sets)) ∙ there;
        }

-- where some posts of a send were shown and some not, its next comes next, by the same members
pub within_shows : (d : Domain) (b : Program) (env : Env) (made : List Move) (left : Program) (env1 : Env) (s : Sending) (l2 : Program) (e2 : Env) (q : Posted) (qs : List Posted) (item : Item)
    → Leads d b env made left env1 → After d left env1 (DidSend s) l2 e2 → length (q ∷ qs) < length s.posts
    → BeginsToShow d b env ((shown_moves made ++ map (item_of s.sets) (q ∷ qs)) ++ item ∷ []) → NextOf s (length (q ∷ qs)) item
within_shows d b env made left env1 s l2 e2 q qs item leads after lt m =
    let K = map (item_of s.sets) (q ∷ qs) in
    let w = map (item_of s.sets) qs ++ item ∷ m.3 in
    let all : shown_moves m.0 ≡ shown_moves made ++ item_of s.sets q ∷ w =
    m.5 ∙ append_assoc (shown_moves made ++ K) (item ∷ []) m.3 ∙ append_assoc (shown_moves made) K (item ∷ m.3) in
    let n = next_is_shown d b env made left env1 m.0 m.1 m.2 (item_of s.sets q) w leads m.4 all in
    let c : ComesNext d left env1 n.0 (item_of s.sets q ∷ w) = n.1 in
    let t = first d left env1 n.0 c.rest c.end c.outcome c.means in
    let same = same_count d left env1 s n.0 l2 t.0 e2 t.1 q (shown_moves c.rest) w after t.2 c.shown in
    of_move d left env1 s l2 e2 q qs item m.3 (shown_moves c.rest) n.0 t.0 t.1 after t.2 lt same c.shown
