use Rattle.std.proofs.Common.{◌≡◌, length, take, refl, ap, ◌∙◌, arith}
use Rattle.std.proofs.lemmas.Grind.{common_steps}
use Rattle.schema.specs.Posts.{memory_kept, refusal}
use Rattle.schema.specs.Reach.{whole}
use Rattle.schema.proofs.Told.{reached_holds, memory_decides, memory_law}
use Rattle.columns.specs.Listing.{list_refusal}
use Rattle.columns.proofs.Tables.{bounded_accepted, refused_alike}
use Rattle.columns.proofs.leaves.list.Goals as goal
use Rattle.columns.proofs.leaves.list.Goals.{After-map}

answered : (c : After-map) → refusal c.map.result ≡ list_refusal (memory_kept c.args.schema.now c.args.elements.now c.args.names.now) (take c.args.schema.now.count c.args.elements.now) c.args.walked.now (length c.args.columns.now) (length c.args.paths.now)
answered c = refused_alike c.walk-outcome.result c.map.result _ c.map.ensures.cases ∙ c.walk-outcome.ensures.walked.answer

pub returns-clause-levels : goal.returns-clause-levels
returns-clause-levels c =
    let s = c.args.schema.now in
    let els = c.args.elements.now in
    let ns = c.args.names.now in
    let kept = memory_kept s els ns in
    bounded_accepted s.bytes (take s.count els) kept (λ e. ((memory_decides s els ns kept refl).0 e).tree) c.args.walked.now (length c.args.columns.now) (length c.args.paths.now) c.map.result (answered c)

pub returns-clause-law : goal.returns-clause-law
returns-clause-law c h p = record {
  holds = reached_holds (whole c.args.schema.now) p;
  answer = answered c
      ∙ ap (λ b. list_refusal b (take c.args.schema.now.count c.args.elements.now) c.args.walked.now (length c.args.columns.now) (length c.args.paths.now))
      (memory_law p (memory_kept c.args.schema.now c.args.elements.now c.args.names.now) refl);
}

pub returns-clause-told : goal.returns-clause-told
returns-clause-told c = record {
  answer = answered c;
  count = grind (arith, common_steps);
  table = grind (arith, common_steps);
  numbers = grind (arith, common_steps);
}
