use Rattle.std.proofs.Common.{◌≡◌, Ok, Some, [], ◌∷◌, ◌++◌, ◌+◌, sym, ap, subst, ◌∙◌, arith}
use Rattle.std.specs.Prelude.{option_copied}
use Rattle.aper_defs.specs.Values as seen
use Rattle.aper_defs.specs.Fields.{Path}
use Rattle.aper_defs.specs.Fields as fields
use Rattle.aper_defs.specs.Questions.{Prog}
use Rattle.aper_defs.specs.Reading.{run}
use Rattle.aper_defs.specs.Bounds.{IsBounded}
use Rattle.aper_defs.specs.Trees.{sequence_of, container}
use Rattle.aper_defs.specs.Asking.{asks}
use Rattle.aper_values.specs.types.Types.{tree, rows_of}
use Rattle.aper_values.specs.types.Forms.{form_tree}
use Rattle.aper_frames.specs.Frames.{components_left, components_next, options_before, after_components, path_of, next_of}
use Rattle.aper_frames.specs.Weights.{part_weight, components_weight, container_weight, frames_weight}
use Rattle.aper_frames.proofs.Lighter.{lighter_than}
use Rattle.aper_decode.specs.InModule.{IsOfModule, IsAround}
use Rattle.aper_decode.specs.Forms.{form_weight}
use Rattle.aper_decode.specs.Heavy.{weighed}
use Rattle.aper_decode.proofs.HeavyLemmas.{form_weighed}
use Rattle.aper_decode.proofs.Turns.{form_of_module}
use Rattle.aper_decode.proofs.FormBounds.{form_bounded}
use Rattle.aper_decode.proofs.InPlace.{steps_in, in_after, lighter_in, lighter_than_in, type_inside, reads_as, component_read, component_begun, component_wrong}
use Rattle.aper_decode.proofs.sequence.read_components.Goals as goal

pub form_of-form-requires : goal.form_of-form-requires
form_of-form-requires c =
    let l = c.loop-others in
    type_inside c.args.m.now (λ w. components_weight w c.args.components) c.in-Some.component.now.definition.number c.requires
    (λ w. omega (
      arith,
      (c.in_ok-component.ensures {u = tt}).lighter w,
      ap (λ x. part_weight w (option_copied x)) c.in-Some.is,
      l.invariant.lighter w,
    ))

pub returns-clause-asked : goal.returns-clause-asked
returns-clause-asked c =
    let l = c.loop-others in
    let of = tree c.args.m.now in
    let fs = c.args.frames.now in
    let n = c.next.new.self in
    steps_in c.begin_additions.result of
    (λ types. options_before n.made.items (after_components types n (path_of l.frames) (next_of types l.frames)) seen.no_options)
    (components_left of c.args.components (path_of fs) (next_of of fs)) c.args.cursor.now l.cursor c.begin_additions.new.cursor c.begin_additions.new.frames
    (l.invariant.same
    ∙ ap (λ P. run P l.cursor)
    ((c.in_ok-component.ensures {u = tt}).asked of (path_of fs) (next_of of fs)
    ∙ ap (λ x. components_next of n (path_of fs) (next_of of fs) (option_copied x)) c.in_default.is)
    ∙ ap (λ gs. run (options_before n.made.items (after_components of n (path_of gs) (next_of of gs)) seen.no_options) l.cursor) (sym l.invariant.frames))
    c.begin_additions.ensures.asked

pub returns-clause-lighter : goal.returns-clause-lighter
returns-clause-lighter c =
    let l = c.loop-others in
    lighter_in c.args.m.now (λ w. components_weight w c.args.components + frames_weight w c.args.frames.now) c.begin_additions.new.frames
    c.begin_additions.result
    (lighter_than c.begin_additions.result c.begin_additions.new.frames
    (λ w. components_weight w c.next.new.self + frames_weight w l.frames) (λ w. components_weight w c.args.components + frames_weight w c.args.frames.now)
    (λ w. omega (arith, (c.in_ok-component.ensures {u = tt}).lighter w, l.invariant.lighter w, ap (frames_weight w) l.invariant.frames))
    c.begin_additions.ensures.lighter)

pub put_part-requires-clause-bounded : goal.put_part-requires-clause-bounded
put_part-requires-clause-bounded c =
    form_bounded (tree c.args.m.now) c.form_of-form.result (subst IsBounded c.form_of-form.ensures.tree c.form_of-form.ensures.bounded)

pub simple_list-requires-clause-bounded : goal.simple_list-requires-clause-bounded
simple_list-requires-clause-bounded c =
    form_bounded (tree c.args.m.now) c.form_of-form.result (subst IsBounded c.form_of-form.ensures.tree c.form_of-form.ensures.bounded)

-- what is left is asked as the next component, where one is there
pub loop-others-preserved-in_default-put_part : goal.loop-others-preserved-in_default-put_part
loop-others-preserved-in_default-put_part c =
    let l = c.loop-others in
    let of = tree c.args.m.now in
    let fs = c.args.frames.now in
    let n = c.next.new.self in
    let part = c.in-Some.component.now in
    let put = c.in_default-put_part.ensures {u = tt} of in
    record {
      same = l.invariant.same
          ∙ ap (λ P. run P l.cursor)
          ((c.in_ok-component.ensures {u = tt}).asked of (path_of fs) (next_of of fs)
          ∙ ap (λ x. components_next of n (path_of fs) (next_of of fs) (option_copied x)) c.in-Some.is)
          ∙ component_read of (path_of fs) (next_of of fs) n part l.cursor c.put_part.new.cursor put.value c.put_part.new.made.items
          (reads_as (Ok put.value) (of part.definition.number) (form_tree of c.form_of-form.result) l.cursor c.put_part.new.cursor
          c.form_of-form.ensures.tree put.read)
          (put.put ∙ ap (λ v. n.made.items ++ v ∷ []) put.kept_as);
      frames = l.invariant.frames;
      lighter = λ w. omega (arith, (c.in_ok-component.ensures {u = tt}).lighter w, l.invariant.lighter w);
    }

pub loop-others-preserved-in-Continue-branch-4 : goal.loop-others-preserved-in-Continue-branch-4
loop-others-preserved-in-Continue-branch-4 c =
    let l = c.loop-others in
    let of = tree c.args.m.now in
    let fs = c.args.frames.now in
    let n = c.next.new.self in
    let part = c.in-Some.component.now in
    let list = c.in-Some-simple_list.list in
    let is = c.in-Some-simple_list.ensures {u = tt} in
    record {
      same = l.invariant.same
          ∙ ap (λ P. run P l.cursor)
          ((c.in_ok-component.ensures {u = tt}).asked of (path_of fs) (next_of of fs)
          ∙ ap (λ x. components_next of n (path_of fs) (next_of of fs) (option_copied x)) c.in-Some.is)
          ∙ component_read of (path_of fs) (next_of of fs) n part l.cursor c.read_list.new.cursor c.in-Ok.value c.push.new.self.items
          (reads_as (Ok c.in-Ok.value) (of part.definition.number) (sequence_of list.size (of list.element.number)) l.cursor c.read_list.new.cursor
          (c.form_of-form.ensures.tree ∙ ap (form_tree of) is.is) (c.in-Ok.ensures of is.member))
          (c.in_ok-push-in-Ok.ensures {u = tt}).items;
      frames = l.invariant.frames;
      lighter = λ w. omega (arith, (c.in_ok-component.ensures {u = tt}).lighter w, l.invariant.lighter w);
    }

pub read_container-requires : goal.read_container-requires
read_container-requires c =
    let l = c.loop-others in
    let id = c.in-Some.component.now.definition.number in
    let within = type_inside c.args.m.now (λ w. components_weight w c.args.components) id c.requires
    (λ w. omega (
      arith,
      (c.in_ok-component.ensures {u = tt}).lighter w,
      ap (λ x. part_weight w (option_copied x)) c.in-Some.is,
      l.invariant.lighter w,
    )) in
    subst (λ f. IsOfModule c.args.m.now (λ w. form_weight w f)) c.in-Container.is
    (form_of_module c.args.m.now id c.form_of-form.result within c.form_of-form.ensures.tree c.form_of-form.ensures.inside)

pub loop-others-preserved : goal.loop-others-preserved
loop-others-preserved c =
    let l = c.loop-others in
    let of = tree c.args.m.now in
    let fs = c.args.frames.now in
    let n = c.next.new.self in
    let part = c.in-Some.component.now in
    record {
      same = l.invariant.same
          ∙ ap (λ P. run P l.cursor)
          ((c.in_ok-component.ensures {u = tt}).asked of (path_of fs) (next_of of fs)
          ∙ ap (λ x. components_next of n (path_of fs) (next_of of fs) (option_copied x)) c.in-Some.is)
          ∙ component_read of (path_of fs) (next_of of fs) n part l.cursor c.read_container.new.cursor c.in-Ok-read_container.value c.push-in-Ok-read_container.new.self.items
          (reads_as (Ok c.in-Ok-read_container.value) (of part.definition.number) (container (rows_of of c.in-Container.rows.now)) l.cursor c.read_container.new.cursor
          (c.form_of-form.ensures.tree ∙ ap (form_tree of) c.in-Container.is) c.in-Ok-read_container.ensures.asked)
          (c.in_ok-push-in-Ok-read_container.ensures {u = tt}).items;
      frames = l.invariant.frames;
      lighter = λ w. omega (arith, (c.in_ok-component.ensures {u = tt}).lighter w, l.invariant.lighter w);
    }

pub returns-in-Err-clause-asked : goal.returns-in-Err-clause-asked
returns-in-Err-clause-asked c =
    let l = c.loop-others in
    let of = tree c.args.m.now in
    let fs = c.args.frames.now in
    let n = c.next.new.self in
    let more = c.push_component.new.frames in
    let part = c.in-Some.component.now in
    component_wrong of n part fs more
    ((c.in_ok-push_component.ensures {u = tt}).path ∙ ap (λ gs. fields.component part.name ∷ path_of gs) l.invariant.frames)
    c.in-Err.error c.form_of-form.result (λ x o. o ≡ Some x) n.made.items c.put_part.new.made.items
    (components_left of c.args.components (path_of fs) (next_of of fs)) c.args.cursor.now l.cursor c.put_part.new.cursor
    (l.invariant.same
    ∙ ap (λ P. run P l.cursor)
    ((c.in_ok-component.ensures {u = tt}).asked of (path_of fs) (next_of of fs)
    ∙ ap (λ x. components_next of n (path_of fs) (next_of of fs) (option_copied x)) c.in-Some.is))
    c.form_of-form.ensures.tree (c.in-Err.ensures of)

pub returns-in-Err-read_container-clause-asked : goal.returns-in-Err-read_container-clause-asked
returns-in-Err-read_container-clause-asked c =
    let l = c.loop-others in
    let of = tree c.args.m.now in
    let fs = c.args.frames.now in
    let n = c.next.new.self in
    let part = c.in-Some.component.now in
    let more = c.push_component-in-Err-read_container.new.frames in
    let question : Path → (seen.Value → Prog) → Prog = λ p. asks p (container (rows_of of c.in-Container.rows.now)) in
    in_after c.go_inside.result of (components_left of c.args.components (path_of fs) (next_of of fs)) (question (path_of more) (next_of of more))
    c.args.cursor.now l.cursor c.go_inside.new.cursor c.go_inside.new.frames
    (l.invariant.same
    ∙ ap (λ P. run P l.cursor)
    ((c.in_ok-component.ensures {u = tt}).asked of (path_of fs) (next_of of fs)
    ∙ ap (λ x. components_next of n (path_of fs) (next_of of fs) (option_copied x)) c.in-Some.is
    ∙ component_begun of n part fs more
    (subst (λ gs. IsAround part n gs more) l.invariant.frames (c.in_ok-push_component-in-Err-read_container.ensures {u = tt}))
    ∙ ap (λ t. asks (path_of more) t (next_of of more)) (c.form_of-form.ensures.tree ∙ ap (form_tree of) c.in-Container.is)))
    (c.go_inside.ensures.asked question of l.cursor c.in-Err-read_container.ensures.asked)

pub returns-in-Err-read_container-clause-lighter : goal.returns-in-Err-read_container-clause-lighter
returns-in-Err-read_container-clause-lighter c =
    let l = c.loop-others in
    let m = c.args.m.now in
    let id = c.in-Some.component.now.definition.number in
    let rows = c.in-Container.rows.now in
    let around = c.in_ok-push_component-in-Err-read_container.ensures {u = tt} in
    let more = c.push_component-in-Err-read_container.new.frames in
    let within = type_inside m (λ w. components_weight w c.args.components) id c.requires
    (λ w. omega (
      arith,
      (c.in_ok-component.ensures {u = tt}).lighter w,
      ap (λ x. part_weight w (option_copied x)) c.in-Some.is,
      l.invariant.lighter w,
    )) in
    lighter_than_in m (λ w. container_weight w 65535 rows + frames_weight w more)
    (λ w. components_weight w c.args.components + frames_weight w c.args.frames.now) c.go_inside.new.frames c.go_inside.result
    (λ other. omega (
      arith,
      form_weighed m other id c.form_of-form.result within c.form_of-form.ensures.tree c.form_of-form.ensures.inside,
      ap (form_weight (weighed m other)) c.in-Container.is,
      (c.in_ok-component.ensures {u = tt}).lighter (weighed m other),
      ap (λ x. part_weight (weighed m other) (option_copied x)) c.in-Some.is,
      l.invariant.lighter (weighed m other),
      around.weight (weighed m other),
      ap (frames_weight (weighed m other)) l.invariant.frames,
    ))
    (lighter_in m (λ w. container_weight w 65535 rows + frames_weight w more) c.go_inside.new.frames c.go_inside.result
    (c.go_inside.ensures.lighter (λ w. container_weight w 65535 rows) c.in-Err-read_container.ensures.lighter))

pub returns-in_default-form-clause-asked : goal.returns-in_default-form-clause-asked
returns-in_default-form-clause-asked c =
    let l = c.loop-others in
    let of = tree c.args.m.now in
    let fs = c.args.frames.now in
    let n = c.next.new.self in
    let more = c.push_component-in_default-form.new.frames in
    let part = c.in-Some.component.now in
    l.invariant.same
    ∙ ap (λ P. run P l.cursor)
    ((c.in_ok-component.ensures {u = tt}).asked of (path_of fs) (next_of of fs)
    ∙ ap (λ x. components_next of n (path_of fs) (next_of of fs) (option_copied x)) c.in-Some.is
    ∙ component_begun of n part fs more
    (subst (λ gs. IsAround part n gs more) l.invariant.frames (c.in_ok-push_component-2.ensures {u = tt})))
