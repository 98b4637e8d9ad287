use Rattle.std.proofs.Common.{Vec, map, false}
use Rattle.sml_tree.specs.Content.{item_content}
use Rattle.sml_tree.specs.declared.file.Item.{Item}
use Rattle.sml_read_parts.specs.Left.{left}
use Rattle.sml_read.proofs.Ended.{whole_read, token_left}
use Rattle.sml_read.proofs.reading.read_items.Goals as goal

pub returns-in-None : goal.returns-in-None
returns-in-None g c =
    whole_read (map item_content c.in_ok-items.items.items) c.new-reader.result (left false 0 c.args.text.now) c.file.new.reader c.new-reader.ensures c.in_ok-items.ensures.1 c.in-None.ensures

pub returns-in-Some : goal.returns-in-Some
returns-in-Some g c =
    token_left (λ (v : Vec (Item g.row.A.Denot) g.row.A.Denot). map item_content v.items) (map item_content c.in_ok-items.items.items) c.new-reader.result (left false 0 c.args.text.now) c.file.new.reader c.in-Some.field-0 c.refusal.result
    c.new-reader.ensures c.in_ok-items.ensures.1 c.in-Some.ensures c.refusal.ensures
