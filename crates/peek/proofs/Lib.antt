mod PeekLaws
