-- Internal: queues by link are what looking back gives.
use Rattle.std.specs.Prelude.{◌≡◌, List, [], if◌then◌else◌}
use Rattle.std.specs.declared.cmp.Ordering.{Ordering}
use Rattle.scenario_text.specs.declared.line.Link.{Link}
use Rattle.scenario_text.specs.declared.line.Link.TheVariants as links
use Rattle.scenario_text.specs.declared.line.Item.{Item}
use Rattle.tables.specs.Tables.{at}
use Rattle.transcript_defs.specs.declared.line.TextLine.{TextLine}
use Rattle.transcript_defs.specs.Past.{same_link, standing, after_line}
use Rattle.transcript_check.specs.declared.index.queues.LinkKey.{LinkKey}
use Rattle.transcript_check.specs.declared.index.queues.LinkKey.TheVariants.{Tunnel, Radio}
use Rattle.transcript_check.specs.contracts.index.queues.LinkKeyOrd.TheImpl as key

abbrev pub link_cmp : LinkKey → LinkKey → Ordering
link_cmp = (key.cmp-value).it

abbrev pub link_key : Link → LinkKey
link_key (links.Tunnel end teid) = Tunnel (record { node = end; teid = teid })
link_key (links.Radio ue bearer dir epoch) = Radio (record { entity = record { ue = ue; bearer = bearer; dir = dir }; epoch = epoch })

abbrev pub queue_on : List (LinkKey × List Item) → Link → List Item
queue_on queues link = at link_cmp [] queues (link_key link)

-- what stands on one link changes
abbrev pub Changes : Link → (List Item → List Item) → List (LinkKey × List Item) → List (LinkKey × List Item) → Type 0
Changes link f old new =
    (other : Link) → queue_on new other ≡ (if same_link other link then f (queue_on old other) else queue_on old other)

-- the queues after a line
abbrev pub FollowsLine : TextLine → List (LinkKey × List Item) → List (LinkKey × List Item) → Type 0
FollowsLine line old new = (link : Link) → queue_on new link ≡ after_line link line (queue_on old link)

-- the queues are what stands on each link after these lines
abbrev pub AreQueues : List TextLine → List (LinkKey × List Item) → Type 0
AreQueues past queues = (link : Link) → queue_on queues link ≡ standing link past
