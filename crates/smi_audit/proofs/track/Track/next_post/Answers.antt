-- What is expected next tells whether a send is begun.
use Rattle.smi_audit.proofs.Begun.{next_post}
use Rattle.smi_audit.proofs.track.Track.next_post.Goals as goal

pub returns-in-Some : goal.returns-in-Some
returns-in-Some c = next_post c.laws_of_following.ensures.shown c.laws_of_following.ensures.ends
    c.args.self.now.follower c.in-Some.expected _ c.in-Some.ensures.some c.post_of.ensures
