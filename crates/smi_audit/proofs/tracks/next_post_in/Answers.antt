-- The track is that of the object.
use Rattle.std.proofs.Common.{◌≡◌, ◌∙◌, ap, get_or, subst, Bor}
use Rattle.std.proofs.lemmas.List.{get_or_default}
use Rattle.std.specs.Prelude.{option_map}
use Rattle.smi_interp.specs.declared.contact.Post.{Post}
use Rattle.smi_audit.specs.Splitting.{IsNextPost}
use Rattle.smi_audit.specs.Tracks.{no_track, track_at}
use Rattle.smi_audit.specs.Views.{TrackView}
use Rattle.smi_audit.proofs.tracks.next_post_in.Goals as goal

pub returns : goal.returns
returns c =
    let same : c.index-tracks-get.result ≡ track_at c.args.tracks.now c.args.o =
    c.index-tracks-get.is ∙ ap (λ i. get_or c.args.tracks.now i c.index-tracks-get.result) c.get.ensures
    ∙ get_or_default c.args.tracks.now c.args.o c.index-tracks-get.result no_track c.requires in
    subst (λ (t : TrackView). IsNextPost t.follower (option_map (λ (p : Bor Post). p.now) c.next_post.result)) same
    c.next_post.ensures
