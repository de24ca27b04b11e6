use Rattle.std.proofs.Common.{refl, arith, length, append-nil, ◌∙◌, ap}
use Rattle.std.proofs.lemmas.Grind.{common_steps}
use Rattle.std.proofs.lemmas.List.{with_items_is}
use Rattle.gnb_base.proofs.LineReaderLemmas.{gathered, more_kept, going_within, going_fits, read_failed, read_ok, one_too_many, read_too_long, read_sound, phase_is}
use Rattle.gnb_base.proofs.lines.LineReader.read_more.Goals as goal

pub returns-in_default : goal.returns-in_default
returns-in_default g c =
    read_failed c.self.inside _ _ _ _ c.self.view_is c.self.invariant c.requires.going
    (append-nil _ ∙ gathered c.self.inside _ _ _ c.self.view_is c.deref.ensures.value (grind (arith, common_steps)))
    refl refl (phase_is c.self.inside _ c.self.view_is c.requires.going)
    c.in_default.ensures.bytes c.in_default.ensures.calls c.in_default.ensures.faults.err c.in_default.ensures.failed

pub invariant_of-self-then-self-gt-INPUT_LIMIT : goal.invariant_of-self-then-self-gt-INPUT_LIMIT
invariant_of-self-then-self-gt-INPUT_LIMIT g c =
    read_sound c.self.inside _ c.args.self.now c.in-Ok.count c.self.view_is c.self.invariant c.requires.without_lf
    (gathered c.self.inside _ c.extend_from_slice.new.self.items _ c.self.view_is c.deref.ensures.value (grind (arith, common_steps)))
    refl refl (ap length (with_items_is c.self.inside.piece c.read_front.new.piece (omega arith)) ∙ omega arith) (omega (arith, c.in-Ok.ensures.bound)) refl refl
    (omega (arith, one_too_many _ c.in-Ok.count c.wanted.result (going_within c.self.inside _ c.self.view_is c.self.invariant c.requires.going) c.in-Ok.ensures.bound c.wanted.ensures.within c.wanted.ensures.alone c.if-self-gt-INPUT_LIMIT.true))

pub returns-then-self-gt-INPUT_LIMIT : goal.returns-then-self-gt-INPUT_LIMIT
returns-then-self-gt-INPUT_LIMIT g c =
    read_too_long c.self.inside _ _ _ _ c.self.view_is c.read_front.new.piece c.in-Ok.count
    (more_kept _ _ _ _ c.in-Ok.count (gathered c.self.inside _ _ _ c.self.view_is c.deref.ensures.value (grind (arith, common_steps))) (with_items_is c.self.inside.piece c.read_front.new.piece (omega arith)))
    refl refl (omega (arith, c.in-Ok.ensures.bound)) c.in-Ok.ensures.bytes.0 c.in-Ok.ensures.calls refl
    (one_too_many _ c.in-Ok.count c.wanted.result (going_within c.self.inside _ c.self.view_is c.self.invariant c.requires.going) c.in-Ok.ensures.bound c.wanted.ensures.within c.wanted.ensures.alone c.if-self-gt-INPUT_LIMIT.true)
    c.in-Ok.ensures.faults.ok c.in-Ok.ensures.failed

pub invariant_of-self-else-self-gt-INPUT_LIMIT : goal.invariant_of-self-else-self-gt-INPUT_LIMIT
invariant_of-self-else-self-gt-INPUT_LIMIT g c =
    read_sound c.self.inside _ c.args.self.now c.in-Ok.count c.self.view_is c.self.invariant c.requires.without_lf
    (gathered c.self.inside _ c.extend_from_slice.new.self.items _ c.self.view_is c.deref.ensures.value (grind (arith, common_steps)))
    refl refl (ap length (with_items_is c.self.inside.piece c.read_front.new.piece (omega arith)) ∙ omega arith) (omega (arith, c.in-Ok.ensures.bound)) refl refl (going_fits c.self.inside.phase _ (phase_is c.self.inside _ c.self.view_is c.requires.going) (omega arith))

pub returns : goal.returns
returns g c =
    read_ok c.self.inside _ _ _ _ c.self.view_is c.read_front.new.piece c.in-Ok.count
    (more_kept _ _ _ _ c.in-Ok.count (gathered c.self.inside _ _ _ c.self.view_is c.deref.ensures.value (grind (arith, common_steps))) (with_items_is c.self.inside.piece c.read_front.new.piece (omega arith)))
    refl refl (omega (arith, c.in-Ok.ensures.bound)) c.in-Ok.ensures.bytes.0 c.in-Ok.ensures.calls c.wanted.result
    (phase_is c.self.inside _ c.self.view_is c.requires.going) c.in-Ok.ensures.bytes.1 c.wanted.ensures.some (omega arith) c.in-Ok.ensures.faults.ok c.in-Ok.ensures.failed
