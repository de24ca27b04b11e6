-- What types mean that were read, with those inside them.
use Rattle.std.proofs.Common.{ℕ, List, ◌∷◌, [], zero, suc, Some, None}
use Rattle.asn1_syntax.specs.declared.types.definition.TypeId.{TypeId}
use Rattle.asn1_syntax.specs.declared.types.definition.Node.{Node}
use Rattle.asn1_syntax.specs.declared.types.members.Frame.{Frame}
use Rattle.asn1_syntax.specs.declared.types.members.Head.{Head}
use Rattle.asn1_syntax.specs.declared.types.members.Head.TheVariants as heads
use Rattle.asn1_syntax.specs.types.Reading.{Left}
use Rattle.asn1_syntax.specs.types.Types.{next_id}
use Rattle.asn1_syntax.specs.types.inside.Types.{Risen, risen, rise_at, type_turn_at, type_goes_on, type_within_at, type_at}
use Rattle.proof_asn1.proofs.asn1_proof_syntax.Gives.{Gives, ok, no_value, and_gives, gives_so}
use Rattle.asn1_defs.specs.TypeMeanings.{AType, with_type, Means}
use Rattle.proof_asn1.proofs.values.MemberTaken.{Meaning, FrameEnds, HeadFacts, leaf, opens, close_gives}
use Rattle.proof_asn1.proofs.values.HeadTaken.{head_gives}

-- behind a type inside these frames, they get their ends in turn, up to that of the outermost type
data Closes : List Frame → TypeId → List Node → Left → TypeId → List Node → Left → Type 0 where
  outermost : {id : TypeId} {nodes : List Node} {ts : Left} → Closes [] id nodes ts id nodes ts
  around : {frame : Frame} {stack : List Frame} {id outer last : TypeId} {nodes more all : List Node} {ts us rest : Left} → FrameEnds frame id nodes ts outer more us → Closes stack outer more us last all rest → Closes (frame ∷ stack) id nodes ts last all rest

-- a whole piece, and then the ends of the frames around it
data Within (M : Meaning) (stack : List Frame) (nodes : List Node) (ts : Left) (last : TypeId) (all : List Node) (rest : Left) : Type 0 where
  within : {id : TypeId} {more : List Node} {us : Left} → M nodes ts id more us → Closes stack id more us last all rest → Within M stack nodes ts last all rest

-- what a type makes of those around it, where C is to be told of the outermost one
data RisenFacts (C : TypeId → List Node → Left → Type 0) : Risen → Type 0 where
  whole : {id : TypeId} {stack : List Frame} {nodes : List Node} {us : Left} → C id nodes us → RisenFacts C (Some id, stack, nodes, us)
  awaits : {stack : List Frame} {nodes : List Node} {us : Left} → ((last : TypeId) (all : List Node) (rest : Left) → Within (Means AType) stack nodes us last all rest → C last all rest) → RisenFacts C (None, stack, nodes, us)

risen_so : {C D : TypeId → List Node → Left → Type 0} → ((last : TypeId) (all : List Node) (rest : Left) → C last all rest → D last all rest) → (a : Risen) → RisenFacts C a → RisenFacts D a
risen_so on (Some id, stack, nodes, us) (whole c) = whole (on id nodes us c)
risen_so on (None, stack, nodes, us) (awaits c) = awaits (λ last all rest w. on last all rest (c last all rest w))

-- a head inside these frames, where it is told of them what rises from a type inside them
head_risen : (M : Meaning) (stack : List Frame) (nodes : List Node) (ts us : Left) (head : Head) → HeadFacts M ts (head, us)
    → ((id : TypeId) (more : List Node) → Gives (RisenFacts (Closes stack id more us)) (rise_at stack id more us))
    → Gives (RisenFacts (Within M stack nodes ts)) (risen head stack nodes us (rise_at stack))
head_risen M stack nodes ts us (heads.Leaf new) (leaf m) rise = gives_so (rise (next_id nodes) (with_type nodes new)) (λ a so. risen_so (λ last all rest c. within (m nodes) c) a so)
head_risen M stack nodes ts us (heads.Opens frame) (opens m) rise = ok (awaits (λ last all rest w. joined last all rest w))
  where
    joined : (last : TypeId) (all : List Node) (rest : Left) → Within (Means AType) (frame ∷ stack) nodes us last all rest → Within M stack nodes ts last all rest
    joined last all rest (within inner (around end later)) = within (m nodes _ _ _ _ _ _ inner end) later

rise_gives : (stack : List Frame) (id : TypeId) (nodes : List Node) (ts : Left) → Gives (RisenFacts (Closes stack id nodes ts)) (rise_at stack id nodes ts)
unfolding rise_at
rise_gives [] id nodes ts = ok (whole outermost)
rise_gives (frame ∷ stack) id nodes ts = and_gives (close_gives frame id ts) (λ head so.
    gives_so (head_risen (FrameEnds frame id) stack nodes ts head.1 head.0 so (λ inner more. rise_gives stack inner more head.1)) (λ a r. risen_so (λ last all rest w. closed last all rest w) a r))
  where
    closed : (last : TypeId) (all : List Node) (rest : Left) → Within (FrameEnds frame id) stack nodes ts last all rest → Closes (frame ∷ stack) id nodes ts last all rest
    closed last all rest (within end later) = around end later

type_turn_gives : (turns : ℕ) (stack : List Frame) (nodes : List Node) (ts : Left) → Gives (RisenFacts (Within (Means AType) stack nodes ts)) (type_turn_at turns stack nodes ts)
unfolding type_turn_at
type_turn_gives turns stack nodes ts = and_gives (head_gives turns ts) (λ head so.
    head_risen (Means AType) stack nodes ts head.1 head.0 so (λ inner more. rise_gives stack inner more head.1))

abbrev TypeWithin : List Frame → List Node → Left → TypeId × List Node × Left → Type 0
TypeWithin stack nodes ts a = Within (Means AType) stack nodes ts a.0 a.1 a.2

type_within_gives : (most turns : ℕ) (stack : List Frame) (nodes : List Node) (ts : Left) → Gives (TypeWithin stack nodes ts) (type_within_at most turns stack nodes ts)
unfolding type_within_at
type_within_gives most zero stack nodes ts = no_value
type_within_gives most (suc turns) stack nodes ts = and_gives (type_turn_gives most stack nodes ts) (λ turn so.
    go (λ inner more us. type_within_gives most turns inner more us) turn so)
  where
    go : ((inner : List Frame) (more : List Node) (us : Left) → Gives (TypeWithin inner more us) (type_within_at most turns inner more us)) → (turn : Risen) → RisenFacts (Within (Means AType) stack nodes ts) turn → Gives (TypeWithin stack nodes ts) (type_goes_on turn (type_within_at most turns))
    go again (Some id, inner, more, us) (whole w) = ok w
    go again (None, inner, more, us) (awaits on) = gives_so (again inner more us) (λ a w. on a.0 a.1 a.2 w)

-- a type
pub type_gives : (turns : ℕ) (nodes : List Node) (ts : Left) → Gives (λ (a : TypeId × List Node × Left). Means AType nodes ts a.0 a.1 a.2) (type_at turns nodes ts)
unfolding type_at
type_gives turns nodes ts = gives_so (type_within_gives turns turns [] nodes ts) (λ a w. alone a.0 a.1 a.2 w)
  where
    alone : (last : TypeId) (all : List Node) (rest : Left) → Within (Means AType) [] nodes ts last all rest → Means AType nodes ts last all rest
    alone last all rest (within m outermost) = m
