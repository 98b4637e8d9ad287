-- A `do` continues to its next post, or is done.
use Rattle.std.proofs.Common.{◌≡◌, ◌<◌, ◌+◌, ◌∙◌, ◌++◌, ◌∷◌, [], List, ap, arith, length, length-append}
use Rattle.smi_journal_entries.specs.declared.entry.Verdict.{Verdict}
use Rattle.smi_audit_follower.specs.Following.{seen_of}
use Rattle.smi_audit_follower.proofs.Posts.{sent_seen, sent_told}
use Rattle.smi_audit_follower.proofs.follower.Follower.judged.Goals as goal

pub settled-requires-clause-told : goal.settled-requires-clause-told
settled-requires-clause-told c =
    let o = c.requires.opened in
    sent_told c.args.format c.args.task c.sent.new.self c.args.sending.members o.wanted c.deref.result.now c.requires.sound.told o.tells o.waits c.sent.ensures

pub returns : goal.returns
returns c =
    let o = c.requires.opened in
    let b = c.args.sending in
    let vs = c.deref.result.now in
    let items : vs ≡ b.verdicts.items ++ c.args.verdict ∷ [] = c.deref.ensures.value ∙ c.in_ok-push.ensures.items in
    let longer : length vs ≡ length b.verdicts.items + 1 = ap (λ (l : List Verdict). length l) items ∙ length-append b.verdicts.items (c.args.verdict ∷ []) in
    let each : length vs ≡ length b.posts.items =
    omega (arith, longer, o.more, c.if-len.false, c.len.ensures, c.len-2.ensures, c.deref.ensures.len, b.posts.ok.0) in
    let some : 0 < length vs = omega (arith, longer) in
    c.in_ok-next.ensures ∙ sent_seen c.args.format c.args.task c.sent.new.self b.members o.wanted b.posts.items vs o.waits o.posts each some c.sent.ensures
    ∙ ap (λ l. seen_of c.args.format c.args.task b.members b.posts.items l) items
