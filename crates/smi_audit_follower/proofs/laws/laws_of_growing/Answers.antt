-- The laws of a journal that grows.
use Rattle.smi_audit_follower.proofs.Kept.{start_followed, post_followed, seen_followed, none_followed, insert_followed, remove_followed, wait_followed, others_followed}
use Rattle.smi_audit_follower.proofs.laws.laws_of_growing.Goals as goal

pub returns-clause-start : goal.returns-clause-start
returns-clause-start c = start_followed

pub returns-clause-post : goal.returns-clause-post
returns-clause-post c = post_followed

pub returns-clause-seen : goal.returns-clause-seen
returns-clause-seen c = seen_followed

pub returns-clause-wait : goal.returns-clause-wait
returns-clause-wait c = wait_followed

pub returns-clause-others : goal.returns-clause-others
returns-clause-others c = others_followed

pub returns-clause-none : goal.returns-clause-none
returns-clause-none c = none_followed

pub returns-clause-insert : goal.returns-clause-insert
returns-clause-insert c = insert_followed

pub returns-clause-remove : goal.returns-clause-remove
returns-clause-remove c = remove_followed
