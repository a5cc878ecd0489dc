use Rattle.ac_stepper.proofs.Statements.{set_plans, put_plans, if_plans, for_plans, while_plans, hand_plans, skip_plans}
use Rattle.ac_stepper.proofs.statement.statement.Goals as goal

pub returns-in-Set : goal.returns-in-Set
returns-in-Set c = set_plans c.args.store.now.program c.args.store.now.start c.args.store.now.memory c.args.st.now c.args.st.now.kind c.set.result c.in-Set.name c.in-Set.value c.in-Set.is c.set.ensures

pub returns-in-Put : goal.returns-in-Put
returns-in-Put c = put_plans c.args.store.now.program c.args.store.now.start c.args.store.now.memory c.args.st.now c.args.st.now.kind c.put.result c.in-Put.name c.in-Put.index c.in-Put.value c.in-Put.is c.put.ensures

pub returns-in-If : goal.returns-in-If
returns-in-If c = if_plans c.args.store.now.program c.args.store.now.start c.args.store.now.memory c.args.st.now c.args.st.now.kind c.choose.result c.in-If.test _ _ _ _ c.in-If.is c.as_slice.ensures c.as_slice-in-If.ensures c.choose.ensures

pub returns-in-For : goal.returns-in-For
returns-in-For c = for_plans c.args.store.now.program c.args.store.now.start c.args.store.now.memory c.args.st.now c.args.st.now.kind c.begin_for.result c.in-For.name c.in-For.lo c.in-For.hi _ _ c.in-For.is c.as_slice-in-For.ensures c.begin_for.ensures

pub returns-in-While : goal.returns-in-While
returns-in-While c = while_plans c.args.store.now.program c.args.store.now.start c.args.store.now.memory c.args.st.now c.args.st.now.kind c.turn.result c.in-While.test _ _ c.in-While.is c.as_slice-in-While.ensures c.turn.ensures

pub returns-in-Hand : goal.returns-in-Hand
returns-in-Hand c = hand_plans c.args.store.now.program c.args.store.now.start c.args.store.now.memory c.args.st.now c.args.st.now.kind c.hand.result c.in-Hand.name c.in-Hand.role c.in-Hand.is c.hand.ensures

pub returns-in-Skip : goal.returns-in-Skip
returns-in-Skip c = skip_plans c.args.store.now.program c.args.store.now.start c.args.store.now.memory c.args.st.now c.args.st.now.kind c.enters_quietly.result c.in-Skip.is c.enters_quietly.ensures
